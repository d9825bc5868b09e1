-- What is taken from a whole window: the test of refusal 13, and the sums where it holds. Assumes nothing.
use mathlib.Core.Path.{◌≡◌, refl, sym, ◌∙◌, ap, subst}
use mathlib.Core.Bool.{Bool, true, false, cond}
use mathlib.Core.List.{List}
use mathlib.Core.Logic.{◌⊎◌, inl, inr}
use Rattle.std.proofs.Common.{Some, None}
use Prim.Native.Nat.{ℕ, ◌+◌, ◌*◌, ◌-◌, ◌^◌, ◌≤◌}
use native.Mathlib.Omega.{arith}
use lib.IntN.{ℤ}
use Rattle.numbers.specs.Depth.{most}
use Rattle.numbers.specs.declared.colour.ColourDirection.{ColourDirection}
use Rattle.signed.proofs.Range.{pos-inside}
use Rattle.colour_samples.specs.declared.nine.Nine.{Nine}
use Rattle.colour_samples.specs.declared.totals.Totals.{Totals}
use Rattle.colour_samples.specs.Way.{behind, unseen, all_in}
use Rattle.colour_samples.specs.Took.{Took, empty}
use Rattle.colour_samples.proofs.Steps.{took-then, took-as}
use Rattle.colour_terms.specs.Terms.{entry}
use Rattle.colour_lines.specs.declared.lines.Lines.{Lines}
use Rattle.colour_lines.specs.Held.{Grid}
use Rattle.colour_lines.specs.TookLines.{TookLines}
use Rattle.colour_sums.specs.declared.window.Window.{Window}
use Rattle.colour_sums.specs.Places.{walk, wide, high, rows_above, few, walk_block, walk_above, walk_below}
use Rattle.colour_sums.specs.Sum.{one_more, sums_of, is_readable, gathered, Laid}
use Rattle.colour_sums.specs.AsLines.{TookAll, readable, above_rows, below_rows, below_columns}
use Rattle.colour_sums.proofs.Runs.{walk_is}
use Rattle.colour_sums.proofs.Taken.{took-rows, took-columns}
use Rattle.colour_sums.proofs.Blocks.{Block, rows-grid, columns-grid}

-- rows of a window that refusal 11 leaves
pub laid-block : {w : Window} {luma chroma : List ℤ} (m r n : ℕ) → Laid w luma chroma → m + r ≤ high w → n ≤ wide w → Block m r n luma chroma
laid-block m r n h rows columns = record {
  rows = omega (arith, h.high);
  columns = omega (arith, h.wide);
  luma-long = λ j l. omega (arith, h.luma-long);
  chroma-long = λ j l. omega (arith, h.chroma-long);
}

-- so that its lines stand in the lists
module _ (w : Window) (luma chroma : List ℤ) (direction : ColourDirection) (h : Laid w luma chroma) where
  pub above-held : Grid (above_rows w) (behind direction) luma chroma
  above-held = rows-grid 0 _ _ direction luma chroma (laid-block 0 _ _ h (omega arith) (omega arith))

  pub below-held : Grid (below_rows w) (behind direction) luma chroma
  below-held = rows-grid _ _ _ direction luma chroma (laid-block (rows_above w) (high w - rows_above w) (few w) h (omega arith) (omega arith))

  pub columns-held : Grid (below_columns w) (behind direction) luma chroma
  columns-held = columns-grid _ _ _ direction luma chroma (laid-block (rows_above w) (high w - rows_above w) (few w) h (omega arith) (omega arith))

module _ (D : ℕ) (direction : ColourDirection) (luma chroma : ℕ → ℕ → ℤ) (w : Window) where
  -- the places inside the above lines, and then those below them
  abbrev pub TookBlock : ℕ → ℕ → ℕ → Totals → Totals → Type 0
  TookBlock m r n g t = Took D (walk_block m r n (readable (most D) direction luma chroma)) (walk_block m r n (one_more D direction luma chroma)) (2 ^ 40) g t

  pub took-all : {g r : Totals} → TookBlock 0 (rows_above w) (wide w) empty g → TookBlock (rows_above w) (high w - rows_above w) (few w) g r
      → TookAll D direction luma chroma w r
  unfolding walk_above walk_below
  took-all a b = took-as (λ ok. sym (walk_is w _ ok)) (λ s. sym (walk_is w _ s)) (omega arith) (took-then a b)

  nothing-in : all_in (most D) unseen ≡ true
  nothing-in = simp (pos-inside (8 * most D + 7) 0 (omega arith), pos-inside (most D) 0 (omega arith))

  -- what the totals of all places give
  pub gathered-is : (r : Totals) → TookAll D direction luma chroma w r → cond (all_in (most D) r.seen) (Some r.sums) None ≡ gathered D direction luma chroma w
  unfolding gathered
  gathered-is r t = (λ j. cond (readable-is j) (Some r.sums) None) ∙ go (is_readable (most D) direction luma chroma w) refl
    where
      readable-is : all_in (most D) r.seen ≡ is_readable (most D) direction luma chroma w
      readable-is = t.tested ∙ ap (walk w (readable (most D) direction luma chroma)) nothing-in

      go : (ok : Bool) → is_readable (most D) direction luma chroma w ≡ ok → cond ok (Some r.sums) None ≡ cond ok (Some (sums_of D direction luma chroma w)) None
      go true e = ap Some (t.summed (readable-is ∙ e))
      go false e = refl

-- which of the two it is
pub gathered-sums : (D : ℕ) (direction : ColourDirection) (luma chroma : ℕ → ℕ → ℤ) (w : Window) (s : Nine) → gathered D direction luma chroma w ≡ Some s
    → (is_readable (most D) direction luma chroma w ≡ true) × (s ≡ sums_of D direction luma chroma w)
unfolding gathered
gathered-sums D direction luma chroma w s = go (is_readable (most D) direction luma chroma w) refl
  where
    go : (t : Bool) → is_readable (most D) direction luma chroma w ≡ t → cond t (Some (sums_of D direction luma chroma w)) None ≡ Some s
        → (is_readable (most D) direction luma chroma w ≡ true) × (s ≡ sums_of D direction luma chroma w)
    go true r e = (r, cc)
    go false r e = let z : ◌≡◌ {A = ℕ} 0 1 = cc in absurd (omega arith)

pub gathered_none : (D : ℕ) (direction : ColourDirection) (luma chroma : ℕ → ℕ → ℤ) (w : Window) → gathered D direction luma chroma w ≡ None
    → is_readable (most D) direction luma chroma w ≡ false
unfolding gathered
gathered_none D direction luma chroma w = go (is_readable (most D) direction luma chroma w) refl
  where
    go : (t : Bool) → is_readable (most D) direction luma chroma w ≡ t → cond t (Some (sums_of D direction luma chroma w)) None ≡ None
        → is_readable (most D) direction luma chroma w ≡ false
    go true r e = let z : ◌≡◌ {A = ℕ} 0 1 = cc in absurd (omega arith)
    go false r e = r

-- lines above and below, taken one after the other, are all places of the window
module _ (D : ℕ) (direction : ColourDirection) (luma chroma : List ℤ) (w : Window) where
  took-below : (below : Lines) (g r : Totals) → (below ≡ below_rows w) ⊎ (below ≡ below_columns w) → TookLines D luma chroma (behind direction) below g r
      → TookBlock D direction (entry luma) (entry chroma) w (rows_above w) (high w - rows_above w) (few w) g r
  took-below below g r (inl e) t =
      took-rows D direction luma chroma _ _ _ g r (subst (λ (l : Lines). TookLines D luma chroma (behind direction) l g r) e t)
  took-below below g r (inr e) t =
      took-columns D direction luma chroma _ _ _ g r (subst (λ (l : Lines). TookLines D luma chroma (behind direction) l g r) e t)

  pub took-lines : (above below : Lines) (back : ℕ) (none g r : Totals) → above ≡ above_rows w → (below ≡ below_rows w) ⊎ (below ≡ below_columns w)
      → back ≡ behind direction → none ≡ empty → TookLines D luma chroma back above none g → TookLines D luma chroma back below g r
      → TookAll D direction (entry luma) (entry chroma) w r
  took-lines above below back none g r a b e n t u =
      took-all D direction (entry luma) (entry chroma) w
      (took-rows D direction luma chroma 0 (rows_above w) (wide w) empty g
      (subst (λ (p : Lines × ℕ × Totals). TookLines D luma chroma p.1 p.0 p.2 g) (λ j. (a j, e j, n j)) t))
      (took-below below g r b (subst (λ (k : ℕ). TookLines D luma chroma k below g r) e u))
