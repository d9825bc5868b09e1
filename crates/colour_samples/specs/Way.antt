-- The code's way to the nine sums (document 01, Colour parameters): terms of twelve digits whatever the values are, so that no test is waited for;
-- and values that are not in range are told from their joined digits at the end.
use Rattle.std.specs.Prelude.{◌≡◌, Bool, ◌&&◌, ℕ, ◌+◌, ◌*◌, ◌/◌, ◌^◌, ◌≤◌, ℤ, pos}
use Rattle.std.specs.Int.Bits.{bit_and, bit_or}
use Rattle.std.specs.Int.{w32}
use Rattle.std.proofs.Common.{to_z, of_z}
use Rattle.numbers.specs.Colour.{rows_up, columns_left}
use Rattle.numbers.specs.Depth.{most}
use Rattle.numbers.specs.declared.colour.ColourDirection.{ColourDirection}
use Rattle.signed.specs.Range.{inside}
use Rattle.colour_terms.specs.Terms.{stride, eighth, middle}
use Rattle.colour_samples.specs.declared.sample.Terms.{Terms}
use Rattle.colour_samples.specs.declared.seen.Seen.{Seen}
use Rattle.colour_samples.specs.Sample.{in_range}

-- how far before the centre, in entries of a list, the direction's luma stands
abbrev pub behind : ColourDirection → ℕ
behind direction = rows_up direction * stride + columns_left direction

-- ---- the terms by their last twelve binary digits; of a sample in range these are the terms (proofs/Low.antt)
abbrev pub low : ℤ → ℕ
low z = bit_and (of_z w32 z) 4095

abbrev pub low_square : ℕ → ℕ → ℕ → ℕ
low_square c middle D = bit_and ((c * c + middle) / 2 ^ D) 4095

abbrev pub low_terms : ℕ → ℤ → ℤ → Terms
low_terms D v c = record { own = low (eighth v); square = low_square (low (eighth c)) (middle D) D; middle = middle D }

-- ---- what was seen
abbrev pub unseen : Seen
unseen = record { luma = pos 0; chroma = pos 0 }

-- with the values of one sample more
abbrev pub seen_with : Seen → ℤ → ℤ → ℤ → Seen
seen_with s v c k = record {
  luma = to_z w32 (bit_or (bit_or (of_z w32 s.luma) (of_z w32 v)) (of_z w32 c));
  chroma = to_z w32 (bit_or (of_z w32 s.chroma) (of_z w32 k));
}

abbrev pub all_in : ℕ → Seen → Bool
all_in M s = inside (pos (8 * M + 7)) s.luma && inside (pos M) s.chroma

-- what that says of the range
abbrev pub Met : ℤ → ℤ → ℤ → Seen → Seen → Type 0
Met v c k s r = (D : ℕ) → D ≤ 12 → all_in (most D) r ≡ (all_in (most D) s && in_range (most D) v c k)
