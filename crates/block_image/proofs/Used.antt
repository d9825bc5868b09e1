-- The count of rows that a block may say, test by test. Assumes nothing.
use mathlib.Core.Path.{◌≡◌}
use mathlib.Core.Bool.{Bool, true, false, ◌&&◌, ◌||◌}
use Prim.Native.Nat.{ℕ, ◌+◌, ◌*◌, ◌≤◌, ◌<◌}
use lib.Dec.{leb, eqb}
use borrow.Author.Tests.{le-leb, lt-leb, eq-eqb, ne_eqb, leb-true}
use Rattle.signed.proofs.Range.{and_both}
use Rattle.numbers.specs.Limits.{most_jobs}
use Rattle.block_image.specs.Rules.{is_used}
use Rattle.block_image.specs.declared.format.Format.{Format}

module _ (F : Format) (k used : ℕ) where
  pub used_over : (last : Bool) → 1 ≤ used → F.rows < used → is_used F last k used ≡ false
  unfolding is_used
  used_over last a b = rw (le-leb 1 used a, lt-leb used F.rows b)

  pub used-last : 1 ≤ used → used ≤ F.rows → is_used F true k used ≡ leb (k * F.rows + used) most_jobs
  unfolding is_used
  used-last a b = rw (le-leb 1 used a, le-leb used F.rows b)

  pub used-short : 1 ≤ used → used ≤ F.rows → (used ≡ F.rows → ⊥) → is_used F false k used ≡ false
  unfolding is_used
  used-short a b d = rw (le-leb 1 used a, le-leb used F.rows b, ne_eqb used F.rows d)

  pub used-full : 1 ≤ used → used ≡ F.rows → used ≤ F.rows → is_used F false k used ≡ leb (k * F.rows + used) most_jobs
  unfolding is_used
  used-full a e b = rw (le-leb 1 used a, le-leb used F.rows b, eq-eqb used F.rows e)

  pub used-within : (last : Bool) → is_used F last k used ≡ true → used ≤ F.rows
  unfolding is_used
  used-within last e =
      let u = and_both (leb 1 used && leb used F.rows && (last || eqb used F.rows)) _ e in
      let v = and_both (leb 1 used && leb used F.rows) _ u.0 in
      leb-true _ _ (and_both (leb 1 used) _ v.0).1
