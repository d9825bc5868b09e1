-- `write_meets` meets its contract: none of the first k rectangles of a row of the window meets it. Assumes nothing.
use native.Mathlib.Omega.{arith}
use native.Mathlib.Decide.{ℕ_discrete}
use mathlib.Core.Path.{◌≡◌}
use Prim.Native.Nat.{◌+◌, ◌*◌, ◌-◌}
use Rattle.rect_order.proofs.Tells.{tells-not, tells-one}
use Rattle.rect_order.proofs.window.write_meets.Goals as goal

pub loop-k-init : goal.loop-k-init
loop-k-init c = (omega arith, λ m j h. absurd (omega arith))

pub overflow_mul-o : goal.overflow_mul-o
overflow_mul-o c = omega arith

pub overflow_add-o : goal.overflow_add-o
overflow_add-o c = omega arith

pub overflow_add-o-in-loop-k : goal.overflow_add-o-in-loop-k
overflow_add-o-in-loop-k c = omega arith

pub any_meets-requires : goal.any_meets-requires
any_meets-requires c = let p = c.requires in (p.0, omega arith, p.3, p.4)

pub returns-then-any_meets : goal.returns-then-any_meets
returns-then-any_meets c =
    let k = c.loop-k.k in
    let s = c.any_meets.ensures.some c.if-any_meets.true in
    let at : s.0 ≡ 4096 * k + (s.0 - 4096 * k) = omega (arith, s.1) in
    tells-one _ _ _ (s.0 - 4096 * k) (omega (arith, s.1)) (omega (arith, s.2)) (k, omega arith, rw at at s.3)

pub overflow_add-k : goal.overflow_add-k
overflow_add-k c = omega arith

pub loop-k-smaller : goal.loop-k-smaller
loop-k-smaller c = omega arith

pub loop-k-preserved : goal.loop-k-preserved
loop-k-preserved c =
    let k = c.loop-k in (
      omega arith,
      λ m j h a b. elim (ℕ_discrete m k.k) [
        | yes q ↦ rw q (c.any_meets.ensures.none c.if-any_meets.false (4096 * k.k + j) (omega arith) (omega arith))
        | no q ↦ k.invariant.1 m j (omega arith) a b
      ],
    )

pub returns : goal.returns
returns c = tells-not _ _ _ (λ j a b h. c.loop-k.invariant.1 h.0 j (omega (arith, h.1)) a b h.2)
