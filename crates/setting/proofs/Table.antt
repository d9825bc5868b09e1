-- "DR[k] x DR[90-k] <= 4096 for k 1 to 89" (document 01, Directions): by a test that antt computes, and what follows for the steps of a zone. Assumes
-- nothing.
use mathlib.Core.Bool.{Bool, true, cond}
use mathlib.Core.Path.{◌≡◌, subst}
use Prim.Native.Nat.{ℕ, ◌*◌, ◌-◌, ◌≤◌, ◌<◌}
use native.Mathlib.Omega.{arith}
use lib.Dec.{T, leb, leb→le}
use borrow.Author.Tests.{le-leb}
use Rattle.lists.proofs.Table.{both, both_left, both_right, at}
use Rattle.setting.specs.Steps.{steps, step}

within : ℕ → ℕ → Bool
within k x = cond (leb 1 k) (both (leb 1 x) (leb (x * step (90 - k)) 4096)) true

pub step-within : (k : ℕ) → 1 ≤ k → k < 90 → (1 ≤ step k) × (step k * step (90 - k) ≤ 4096)
unfolding within
step-within k l h =
    let t : T (both (leb 1 (step k)) (leb (step k * step (90 - k)) 4096)) = rw (le-leb 1 k l) at (at 0 within steps tt k h) in
    (leb→le 1 (step k) (both_left (leb 1 (step k)) _ t), leb→le _ 4096 (both_right (leb 1 (step k)) _ t))

low : ℕ → ℕ → Bool
low k x = both (leb x 4096) (cond (leb 36 k) (leb x 96) true)

pub step-most : (k : ℕ) → k < 90 → step k ≤ 4096
unfolding low
step-most k h = leb→le (step k) 4096 (both_left (leb (step k) 4096) _ (at 0 low steps tt k h))

-- the angles of zones 1 and 3 lie at least 36 degrees from the edge's axis the other way
pub step-low : (k : ℕ) → 36 ≤ k → k < 90 → step k ≤ 96
unfolding low
step-low k l h =
    let t : T (leb (step k) 96) = rw (le-leb 36 k l) at (both_right (leb (step k) 4096) _ (at 0 low steps tt k h)) in
    leb→le (step k) 96 t

-- both steps of zone 2
pub steps-within : (angle : ℕ) → 90 < angle → angle < 180
    → (0 < step (180 - angle)) × (0 < step (angle - 90)) × (step (180 - angle) * step (angle - 90) ≤ 4096)
steps-within angle l h =
    let other : 90 - (180 - angle) ≡ angle - 90 = omega arith in
    let p = step-within (180 - angle) (omega arith) (omega arith) in
    (p.0, (step-within (angle - 90) (omega arith) (omega arith)).0, subst (λ (k : ℕ). step (180 - angle) * step k ≤ 4096) other p.1)
