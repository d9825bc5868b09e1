-- The bounds of a row, from the parts that the code has: whether it stands, and its words. Assumes nothing.
use mathlib.Core.Path.{◌≡◌, sym, ◌∙◌, subst}
use mathlib.Core.Bool.{Bool, true}
use mathlib.Core.List.{List}
use Prim.Native.Nat.{ℕ, ◌≤◌}
use lib.IntN.{ℤ}
use Rattle.block_spec.specs.declared.spec.IntraRefSpec.{IntraRefSpec}
use Rattle.reorder.specs.Rect.{Rect}
use Rattle.job.specs.Row.{Row, spec_of}
use Rattle.job.specs.Rules.{stands}
use Rattle.job.proofs.Stands.{standing}
use Rattle.clash.specs.Hull.{only_if}
use Rattle.clash.specs.Rects.{HullFits}
use Rattle.order.specs.Sides.{sides_of}
use Rattle.order.specs.Window.{Searched}
use Rattle.order.specs.declared.bound_lists.Sides.{Sides}
use Rattle.clash.proofs.Placed.{placed_of}

module _ (W H n : ℕ) (part : Row) (on : Bool) (s : IntraRefSpec) (p : on ≡ stands W H n part) (q : s ≡ spec_of part) where
  pub placed-if : W ≤ 4096 → H ≤ 4096 → on ≡ true → HullFits s
  placed-if w h e = subst HullFits (sym q) (placed_of W H (spec_of part) (standing W H n part (sym p ∙ e)) w h)

  -- f is the block or the hull
  pub sides-is : (row : Row) → part ≡ row → (f : IntraRefSpec → Rect) (b : Sides) → b ≡ sides_of (only_if on (f s))
      → b ≡ sides_of (only_if (stands W H n row) (f (spec_of row)))
  sides-is row e f b r = r ∙ (λ k. sides_of (only_if (p k) (f (q k)))) ∙ (λ k. sides_of (only_if (stands W H n (e k)) (f (spec_of (e k)))))

pub searched-as : (W H n : ℕ) (plan : List ℕ) (i top : ℕ) (blocks hulls : List ℤ) (b b' h h' : Sides) (r r' : Bool) → b ≡ b' → h ≡ h' → r ≡ r'
    → Searched W H n plan i top blocks hulls b h r → Searched W H n plan i top blocks hulls b' h' r'
searched-as W H n plan i top blocks hulls b b' h h' r r' p q e s =
    subst (λ x. Searched W H n plan i top blocks hulls x h' r') p
    (subst (λ y. Searched W H n plan i top blocks hulls b y r') q (subst (λ t. Searched W H n plan i top blocks hulls b h t) e s))
