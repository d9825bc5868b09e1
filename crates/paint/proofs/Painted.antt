-- A rectangle that is written: its length, what stands in it, and what stands outside. Assumes nothing.
use mathlib.Core.Path.{◌≡◌, refl, sym, ◌∙◌, ap}
use mathlib.Core.Bool.{Bool, true, false, cond, ◌&&◌}
use mathlib.Core.Logic.{⊎_elim}
use mathlib.Core.List.{List}
use Prim.Native.Nat.{ℕ, ◌+◌, ◌-◌, ◌/◌, ◌%◌, ◌≤◌, ◌<◌}
use native.Mathlib.Omega.{arith}
use lib.Dec.{leb, ltb}
use lib.Ieee.{Float, nan}
use lib.ListN.{length, get_or, get_or-eq_default}
use borrow.Author.Tests.{leb-true, ltb-true}
use Rattle.signed.proofs.Range.{and_both}
use Rattle.lists.proofs.Fill.{length-tab, tab-at, tab-same}
use Rattle.edge_line.proofs.Split.{below_or}
use Rattle.reorder.specs.Rect.{Rect, Wide, In, in_b}
use Rattle.reorder.proofs.Test.{fails}
use Rattle.reorder.proofs.Rect.{in-decides}
use Rattle.paint.specs.Painted.{painted}

module _ (W : ℕ) (R : Rect) (f : ℕ → ℕ → Float) (plane : List Float) where
  abbrev entry : ℕ → Float
  entry p = cond (in_b W R p) (f (p / W - R.y) (p % W - R.x)) (get_or plane p nan)

  pub painted-length : length (painted W R f plane) ≡ length plane
  unfolding painted
  painted-length = length-tab (length plane) entry

  at : (p : ℕ) → p < length plane → get_or (painted W R f plane) p nan ≡ entry p
  unfolding painted
  at p h = tab-at (length plane) entry p nan h

  past : (p : ℕ) → length plane ≤ p → get_or (painted W R f plane) p nan ≡ nan
  past p h = get_or-eq_default (painted W R f plane) nan (omega (arith, painted-length))

  pub painted-in : Wide W R → (p : ℕ) → p < length plane → In W R p → get_or (painted W R f plane) p nan ≡ f (p / W - R.y) (p % W - R.x)
  painted-in wide p h i = at p h ∙ ap (λ b. cond b (f (p / W - R.y) (p % W - R.x)) (get_or plane p nan)) ((in-decides W R wide p).1 i)

  pub painted-out : Wide W R → (p : ℕ) → ¬ (In W R p) → get_or (painted W R f plane) p nan ≡ get_or plane p nan
  painted-out wide p out =
      ⊎_elim
      (λ h. at p h ∙ ap (λ b. cond b (f (p / W - R.y) (p % W - R.x)) (get_or plane p nan)) ((fails _ _ (in-decides W R wide p)).1 out))
      (λ h. past p h ∙ sym (get_or-eq_default plane nan h))
      (below_or p (length plane))

-- two that agree in the rectangle
pub painted_same : (W : ℕ) (R : Rect) (f g : ℕ → ℕ → Float) (plane : List Float) → ((r c : ℕ) → r < R.h → c < R.w → f r c ≡ g r c)
    → painted W R f plane ≡ painted W R g plane
unfolding painted in_b
painted_same W R f g plane same = tab-same (length plane) (entry W R f plane) (entry W R g plane) (λ p l. at_place p (in_b W R p) refl)
  where
    at_place : (p : ℕ) (t : Bool) → in_b W R p ≡ t
        → cond t (f (p / W - R.y) (p % W - R.x)) (get_or plane p nan) ≡ cond t (g (p / W - R.y) (p % W - R.x)) (get_or plane p nan)
    at_place p true e =
        let a = and_both (leb R.y (p / W) && ltb (p / W) (R.y + R.h)) _ e in
        let u = and_both (leb R.y (p / W)) _ a.0 in
        let v = and_both (leb R.x (p % W)) _ a.1 in
        let ul : R.y ≤ p / W = leb-true _ _ u.0 in
        let uh : p / W < R.y + R.h = ltb-true _ _ u.1 in
        let vl : R.x ≤ p % W = leb-true _ _ v.0 in
        let vh : p % W < R.x + R.w = ltb-true _ _ v.1 in
        same (p / W - R.y) (p % W - R.x) (omega arith) (omega arith)
    at_place p false e = refl
