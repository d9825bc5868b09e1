-- What a block function hands to its rows, with the size B open: the entry that ends an edge, log2 B, the scale and its weights; and that what the
-- rows work out at a place is the definition's sample. Assumes nothing.
use mathlib.Core.Path.{◌≡◌, refl, sym, ◌∙◌, ap}
use mathlib.Core.Bool.{true}
use mathlib.Core.List.{List}
use Prim.Native.Nat.{ℕ, ◌-◌, ◌*◌, ◌^◌, ◌<◌}
use native.Mathlib.Omega.{arith}
use lib.IntN.{ℤ, pos, nat_abs}
use lib.ListN.{length, get_or}
use mir.Syntax.{w32}
use mir.Val.{to_z, of_z}
use Rattle.numbers.specs.Size.{is_size}
use Rattle.signed.specs.Range.{inside}
use Rattle.signed.proofs.Range.{pos-inside}
use Rattle.lists.specs.Fill.{tab}
use Rattle.lists.proofs.Fill.{length-tab, tab-at}
use Rattle.direct_calls.specs.Given.{Given}
use Rattle.direct_calls.proofs.Accepted.{size-most}
use Rattle.smooth_steps.specs.Parts.{edge_at, weighed, Step, Entries, Weights}
use Rattle.smooth_steps.proofs.Steps.{entry_in, entry-abs, entry-most}
use Rattle.smooth_weights.specs.Weights.{log2, scale, weight}
use Rattle.smooth_weights.specs.Reach.{reach_of}
use Rattle.smooth_weights.proofs.Sizes.{sized, size-some}
use Rattle.smooth_weights.proofs.Table.{weight-most, weight-none}
use Rattle.smooth_spec.specs.Smooth.{smoothed}
use Rattle.smooth_spec.proofs.Laws.{place_is}

-- the smooth predictors look at no corner: 0 stands for it
pub no-corner : {B M : ℕ} {above left : List ℤ} {k : ℤ} {n : ℕ} → Given B M above left k n → Given B M above left (pos 0) n
no-corner {M = M} g = record {
  size = g.size;
  above-long = g.above-long;
  left-long = g.left-long;
  out-long = g.out-long;
  above_in = g.above_in;
  left_in = g.left_in;
  corner-in = pos-inside M 0 (omega arith);
}

-- the edges, as the rows have them
module _ {B n : ℕ} {above left : List ℤ} {k : ℤ} (g : Given B 4095 above left k n) where
  pub above-entries : Entries above (2 * B)
  above-entries = record { long = g.above-long; samples = g.above_in }

  pub left-entries : Entries left (2 * B)
  left-entries = record { long = g.left-long; samples = g.left_in }

module _ (B : ℕ) (size : is_size B ≡ true) where
  past_end : B < 2 * B
  past_end = omega (arith, size-some B size)

  pub first-half : {edge : List ℤ} → Entries edge (2 * B) → Entries edge B
  first-half h = record { long = omega (arith, h.long); samples = λ i l. h.samples i (omega arith) }

  -- the entry that ends an edge, and as the code reads it
  module _ {ends : List ℤ} (h : Entries ends (2 * B)) where
    pub end-there : B < length ends
    end-there = omega (arith, h.long, past_end)

    pub end-in : inside (pos 4095) (to_z w32 (of_z w32 (edge_at ends B))) ≡ true
    end-in = entry_in h B past_end

    pub end_step : {e k : ℕ} → e ≡ nat_abs (to_z w32 (of_z w32 (edge_at ends B))) → k ≡ log2 B → Step e 0 B k
    end_step ee ek =
        let f = sized B size in
        record { end = omega (arith, ee, entry-abs h B past_end, entry-most h B past_end); few = omega arith; power = f.power ∙ ap (λ n. 2 ^ n) (sym ek); small = omega (arith, f.high, ek) }

  pub scale-low : {s : ℕ} → s ≡ scale B → s < 3
  scale-low es = omega (arith, (sized B size).few, es)

  -- the weights of the size's scale s
  module _ {s : ℕ} {weights : List ℕ} (es : s ≡ scale B) (ew : weights ≡ tab 64 (weight s)) where
    weights-at : (i : ℕ) → i < B → get_or weights i 0 ≡ weight s i
    weights-at i l = ap (λ xs. get_or xs i 0) ew ∙ tab-at 64 (weight s) i 0 (omega (arith, size-most B size))

    pub weights-are : {reach : ℕ} → reach ≡ reach_of s → Weights weights B reach
    weights-are er =
        record {
          long = omega (arith, size-most B size, ap length ew, length-tab 64 (weight s));
          within = omega (arith, (sized B size).reach, es, er);
          parts = λ i l. omega (arith, weights-at i l, weight-most s i);
          none = λ i h l. weights-at i l ∙ weight-none s i (scale-low es) (omega (arith, h, er)) (omega (arith, size-most B size));
        }

    pub all-weights : Weights weights B B
    all-weights =
        let w = weights-are {reach = reach_of s} refl in
        record { long = w.long; within = omega arith; parts = w.parts; none = λ i h l. absurd (omega arith) }

    -- column (or row) i of the edge and row (or column) y
    pub place : {edge ends : List ℤ} {e : ℕ} → Entries edge (2 * B) → Entries ends (2 * B) → e ≡ nat_abs (to_z w32 (of_z w32 (edge_at ends B)))
        → (i y : ℕ) → i < B → y < B
        → pos (weighed B e (nat_abs (edge_at edge i)) (B - 1 - y) (get_or weights y 0)) ≡ smoothed B (edge_at ends B) (edge_at edge i) y
    place {edge} {ends} h g ee i y hi hy =
        place_is B size 4095 (edge_at ends B) (edge_at edge i) y (g.samples B past_end) (h.samples i (omega arith)) (ee ∙ entry-abs g B past_end)
        (weights-at y hy ∙ ap (λ n. weight n y) es)
