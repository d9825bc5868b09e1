-- `reads_meet` meets its contract: of the rectangles read, none before the k-th meets what a row of the window writes. Assumes nothing.
use native.Mathlib.Omega.{arith}
use native.Mathlib.Decide.{ℕ_discrete}
use mathlib.Core.Path.{sym, ◌∙◌, ap}
use Rattle.reorder.specs.Rect.{meet_b}
use Rattle.rect_order.specs.Columns.{span_of, rect_at}
use Rattle.rect_order.proofs.Meet.{plain-bounds}
use Rattle.rect_order.proofs.Tells.{tells-not, tells-one}
use Rattle.rect_order.proofs.window.reads_meet.Goals as goal

pub loop-k-init : goal.loop-k-init
loop-k-init c = (omega arith, omega arith, λ m j l h. absurd (omega arith))

pub bounds_in-s-requires : goal.bounds_in-s-requires
bounds_in-s-requires c = let p = c.requires in (p.row, p.few, omega arith)

pub any_meets-requires : goal.any_meets-requires
any_meets-requires c =
    let s = c.before.before.before in
    let p = s.requires in
    let b = plain-bounds s.args.table.now s.args.i c.loop-k.k p.numbers in
    (p.parts, omega (arith, p.window), p.plain, rw c.bounds_in-s.ensures b)

pub returns-then-any_meets : goal.returns-then-any_meets
returns-then-any_meets c =
    let k = c.loop-k in
    let columns = c.args.columns.now in
    let s = c.any_meets.ensures.some c.if-any_meets.true in
    let same = ap (λ b. meet_b (span_of b) (rect_at columns s.0)) c.bounds_in-s.ensures in
    tells-one _ _ _ s.0 s.1 s.2 (k.k, k.invariant.0, omega arith, sym same ∙ s.3)

pub overflow_add-k : goal.overflow_add-k
overflow_add-k c = omega arith

pub loop-k-smaller : goal.loop-k-smaller
loop-k-smaller c = omega arith

pub loop-k-preserved : goal.loop-k-preserved
loop-k-preserved c =
    let k = c.loop-k in
    let columns = c.args.columns.now in
    let none = c.any_meets.ensures.none c.if-any_meets.false in (
      omega arith,
      omega arith,
      λ m j l h a b. elim (ℕ_discrete m k.k) [
        | yes q ↦ rw q (λ e. none j a b (ap (λ r. meet_b (span_of r) (rect_at columns j)) c.bounds_in-s.ensures ∙ e))
        | no q ↦ k.invariant.2 m j l (omega arith) a b
      ],
    )

pub returns : goal.returns
returns c = tells-not _ _ _ (λ j a b h. c.loop-k.invariant.2 h.0 j h.1 (omega (arith, h.2)) a b h.3)
