-- `one_by_one` meets its contract: none of the rows after i up to j that touch row i clashes with it. Assumes nothing.
use native.Mathlib.Omega.{arith}
use native.Mathlib.Decide.{ℕ_discrete}
use mathlib.Core.Bool.{true≢false, false≢true}
use Rattle.order.proofs.window.one_by_one.Goals as goal

pub overflow_add-j : goal.overflow_add-j
overflow_add-j c = omega arith

pub loop-j-init : goal.loop-j-init
loop-j-init c = (omega arith, λ m a b. absurd (omega arith))

pub turned-requires : goal.turned-requires
turned-requires c =
    let p = c.requires in
    (record { row = p.row; rows = omega arith; few = p.few; blocks-long = p.blocks-long; hulls-long = p.hulls-long }, omega arith)

pub returns-then-turned : goal.returns-then-turned
returns-then-turned c =
    let k = c.loop-j in
    let t = c.turned.ensures.found c.if-turned.true in
    record { found = λ e. (k.j, k.invariant.0, c.loop-j-test.true, t.0, t.1); free = λ e. absurd (true≢false e) }

pub overflow_add-j-in-loop-j : goal.overflow_add-j-in-loop-j
overflow_add-j-in-loop-j c = omega arith

pub loop-j-smaller : goal.loop-j-smaller
loop-j-smaller c = omega arith

pub loop-j-preserved : goal.loop-j-preserved
loop-j-preserved c =
    let k = c.loop-j in (
      omega arith,
      λ m a b t. elim (ℕ_discrete m k.j) [
        | yes q ↦ rw q (c.turned.ensures.free c.if-turned.false (rw q at t))
        | no nq ↦ k.invariant.1 m a (omega arith) t
      ],
    )

pub returns : goal.returns
returns c = record { found = λ e. absurd (false≢true e); free = λ e m a b t. c.loop-j.invariant.1 m a (omega arith) t }
