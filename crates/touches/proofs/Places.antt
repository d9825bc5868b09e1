-- A rectangle that may be empty, and the sample behind an entry. Assumes nothing.
use mathlib.Core.Path.{◌≡◌, refl}
use mathlib.Core.Logic.{◌↔◌}
use mathlib.Core.Bool.{Bool, true, false, false≢true}
use Prim.Native.Nat.{ℕ, ◌+◌, ◌*◌, ◌≤◌}
use native.Mathlib.Omega.{arith}
use lib.IntN.{ℤ}
use Rattle.block_spec.specs.Behind.{Behind, place, number}
use Rattle.reorder.specs.Rect.{Wide, In}
use Rattle.touches.specs.Touches.{IsAt}
use Rattle.touches.specs.Rects.{rect_if}

-- ---- a rectangle that may be empty

module _ (W x y w h : ℕ) where
  pub rect-if : (b : Bool) (p : ℕ) → In W (rect_if b x y w h) p ↔ ((b ≡ true) × In W (record { x = x; y = y; w = w; h = h }) p)
  rect-if true p = (λ i. (refl, i), λ i. i.1)
  rect-if false p = (λ i. absurd (omega arith), λ i. absurd (false≢true i.0))

  pub wide-if : (b : Bool) → (b ≡ true → x + w ≤ W) → Wide W (rect_if b x y w h)
  wide-if true f = f refl
  wide-if false f = omega arith

-- ---- a sample behind an entry

module _ (W p : ℕ) (b : Behind) where
  pub is_at : (r c : ℕ) → b ≡ place r c → p ≡ r * W + c → IsAt W p b
  is_at r c e q = rw e q

  pub at-is : (r c : ℕ) → b ≡ place r c → IsAt W p b → p ≡ r * W + c
  at-is r c e q = rw e at q

  pub at_none : (z : ℤ) → b ≡ number z → ¬ (IsAt W p b)
  at_none z e q = rw e at q
