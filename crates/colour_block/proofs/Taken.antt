-- The entries that the code takes are the definition's, for a block that is placed; and where all that it needs is luma of its depth, so is each row.
-- Assumes nothing.
use mathlib.Core.Path.{◌≡◌, refl, sym, ap, subst}
use mathlib.Core.Bool.{Bool, true, false, not, cond, ◌&&◌}
use mathlib.Core.List.{List}
use Prim.Native.Nat.{ℕ, zero, suc, ◌+◌, ◌*◌, ◌/◌, ◌%◌, ◌≤◌, ◌<◌}
use native.Mathlib.Omega.{arith}
use lib.Dec.{ltb}
use lib.IntN.{ℤ, pos}
use lib.ListN.{length}
use borrow.Author.Tests.{le-ltb}
use Rattle.numbers.specs.Colour.{the_colour, rows_up, columns_left}
use Rattle.numbers.specs.Depth.{most}
use Rattle.numbers.specs.declared.colour.ColourDirection.{ColourDirection}
use Rattle.numbers.specs.declared.colour.ColourDirection.TheVariants.{Centre, Above, Left}
use Rattle.signed.specs.Range.{inside}
use Rattle.lists.specs.Fill.{filled}
use Rattle.lists.specs.Block.{rows}
use Rattle.lists.proofs.Fill.{filled-same}
use Rattle.colour_terms.specs.Terms.{stride, entry}
use Rattle.colour_row.specs.Mixed.{Luma, MixOf}
use Rattle.colour_row.specs.Runs.{at}
use Rattle.colour_row.specs.Sample.{total, clipped}
use Rattle.colour_row.specs.declared.mix.Mix.{Mix}
use Rattle.colour_rules.specs.Needed.{before, centre_at, direction_at}
use Rattle.colour_rules.specs.Placed.{InReference}
use Rattle.colour_rules.specs.Rules.{is_luma_in_range}
use Rattle.colour_rules.specs.declared.block.Block.{Block}
use Rattle.colour_rules.proofs.Before.{rows-one, columns-one}
use Rattle.colour_rules.proofs.Reach.{entry_of}
use Rattle.colour_rules.proofs.Shown.{shown}
use Rattle.colour_block.specs.Predicted.{chroma_at, chroma_block}
use Rattle.colour_block.specs.Lines.{row_start, lead_of, up_at, step_of, direction_entry, LumaRow, found}

-- none, or one
at_most : (missing : Bool) {n : ℕ} → n ≤ 1 → cond missing 0 n ≤ 1
at_most true h = omega arith
at_most false h = h

pub up-at-one : (b : Block) (j : ℕ) → up_at b j ≤ 1
unfolding up_at
up-at-one b j = at_most (ltb j (rows_up (the_colour b.direction)) && not b.have_top) (rows-one (the_colour b.direction))

-- a row by equal numbers
pub line_at : (k : Mix) (luma : List ℤ) (b : Block) (j s step lead m : ℕ) → s ≡ row_start b j → step ≡ step_of b j → lead ≡ lead_of b → m ≡ b.width
    → LumaRow k luma (row_start b j) (step_of b j) (lead_of b) b.width → LumaRow k luma s step lead m
line_at k luma b j s step lead m p q r t l = rw (p, q, r, t) l

module _ (b : Block) (n : ℕ) (g : InReference b n) where
  abbrev top : ℕ
  top = b.above_lines

  abbrev left : ℕ
  left = b.left_lines

  pub centre-is : (i j : ℕ) → row_start b j + i ≡ entry_of (centre_at b i j)
  centre-is i j = omega arith

  -- the direction's lead and step, by what is there
  abbrev lead_by : ColourDirection → Bool → ℕ
  lead_by c l = cond l 0 (columns_left c)

  abbrev step_by : ColourDirection → Bool → ℕ → ℕ
  step_by c t j = cond (ltb j (rows_up c) && not t) 0 (rows_up c) * stride + columns_left c

  tap-by : (c : ColourDirection) (t l : Bool) → (t ≡ true → 1 ≤ top) → (l ≡ true → 1 ≤ left) → (i j : ℕ)
      → direction_entry (row_start b j) (step_by c t j) (lead_by c l) i ≡ before t top (rows_up c) j * stride + before l left (columns_left c) i
  tap-by Centre t true p q i j = simp (le-ltb i 0 (omega arith), le-ltb j 0 (omega arith)) (omega arith)
  tap-by Centre t false p q i j = simp (le-ltb i 0 (omega arith), le-ltb j 0 (omega arith)) (omega arith)
  tap-by Above true true p q i zero = let h = p refl in simp (le-ltb i 0 (omega arith)) (omega arith)
  tap-by Above true false p q i zero = let h = p refl in simp (le-ltb i 0 (omega arith)) (omega arith)
  tap-by Above false true p q i zero = simp (le-ltb i 0 (omega arith)) (omega arith)
  tap-by Above false false p q i zero = simp (le-ltb i 0 (omega arith)) (omega arith)
  tap-by Above t true p q i (suc j) = simp (le-ltb i 0 (omega arith), le-ltb (suc j) 1 (omega arith)) (omega arith)
  tap-by Above t false p q i (suc j) = simp (le-ltb i 0 (omega arith), le-ltb (suc j) 1 (omega arith)) (omega arith)
  tap-by Left t true p q zero j = let h = q refl in simp (le-ltb j 0 (omega arith)) (omega arith)
  tap-by Left t true p q (suc i) j = simp (le-ltb j 0 (omega arith), le-ltb (suc i) 0 (omega arith), le-ltb (suc i) 1 (omega arith)) (omega arith)
  tap-by Left t false p q zero j = simp (le-ltb j 0 (omega arith)) (omega arith)
  tap-by Left t false p q (suc i) j = simp (le-ltb j 0 (omega arith), le-ltb (suc i) 1 (omega arith)) (omega arith)

  pub tap-is : (i j : ℕ) → direction_entry (row_start b j) (step_of b j) (lead_of b) i ≡ entry_of (direction_at b i j)
  unfolding step_of up_at lead_of direction_at
  tap-is i j = tap-by (the_colour b.direction) b.have_top b.have_left g.top g.side i j

  behind-by : (c : ColourDirection) (t l : Bool) → (t ≡ true → 1 ≤ top) → (l ≡ true → 1 ≤ left) → (j : ℕ) → step_by c t j ≤ row_start b j + lead_by c l
  behind-by Centre t l p q j = simp (le-ltb j 0 (omega arith)) (omega arith)
  behind-by Above true l p q zero = let h = p refl in omega arith
  behind-by Above false l p q zero = omega arith
  behind-by Above t l p q (suc j) = simp (le-ltb (suc j) 1 (omega arith)) (omega arith)
  behind-by Left t true p q j = let h = q refl in simp (le-ltb j 0 (omega arith)) (omega arith)
  behind-by Left t false p q j = simp (le-ltb j 0 (omega arith)) (omega arith)

  -- the step stays inside the list
  step-behind : (j : ℕ) → step_of b j ≤ row_start b j + lead_of b
  unfolding step_of up_at lead_of
  step-behind j = behind-by (the_colour b.direction) b.have_top b.have_left g.top g.side j

  lead-one : lead_of b ≤ 1
  unfolding lead_of
  lead-one = at_most b.have_left (columns-one (the_colour b.direction))

  -- luma of the block's depth
  luma-of : (k : Mix) (v : ℤ) → k.bits ≡ b.d → inside (pos (8 * most b.d + 7)) v ≡ true → Luma k v
  luma-of k v d h = subst (λ D. inside (pos (8 * most D + 7)) v ≡ true) (sym d) h

  pub line_of : (k : Mix) (luma : List ℤ) → n ≡ length luma → k.bits ≡ b.d → is_luma_in_range (entry luma) b ≡ true → (j : ℕ) → j < b.height
      → LumaRow k luma (row_start b j) (step_of b j) (lead_of b) b.width
  line_of k luma e d r j h = record {
    leads = omega (arith, lead-one, g.wide);
    behind = step-behind j;
    long = omega (arith, g.across, g.down, g.long);
    near-in = λ i l. subst (Luma k) (ap (at luma) (sym (tap-is i j))) (luma-of k _ d (shown b (entry luma) r i j l h).1);
    centre-in = λ i l. subst (Luma k) (ap (at luma) (sym (centre-is i j))) (luma-of k _ d (shown b (entry luma) r i j l h).0);
  }

  -- what the code finds is the definition's sample
  pub found-is : (k : Mix) (luma : List ℤ) (p0 p1 p2 : ℤ) → MixOf b.d p0 p1 p2 k → (r c : ℕ)
      → found k luma b r c ≡ chroma_at (entry luma) b p0 p1 p2 r c
  found-is k luma p0 p1 p2 m r c = λ j. clipped (m.bits j) (total (m.bits j) (m.first j) (m.second j) (m.third j) (at luma (tap-is c r j)) (at luma (centre-is c r j)))

  -- and the code's rows are its block
  pub block-is : (k : Mix) (luma : List ℤ) (p0 p1 p2 : ℤ) → MixOf b.d p0 p1 p2 k → (out : List ℤ)
      → filled (b.height * b.width) (rows b.width (found k luma b)) out ≡ chroma_block luma b p0 p1 p2 out
  unfolding chroma_block
  block-is k luma p0 p1 p2 m out = filled-same (b.height * b.width) _ _ out (λ i l. found-is k luma p0 p1 p2 m (i / b.width) (i % b.width))
