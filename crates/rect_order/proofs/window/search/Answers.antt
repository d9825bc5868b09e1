-- `search` meets its contract. Assumes nothing.
use native.Mathlib.Omega.{arith}
use mathlib.Core.Logic.{inl}
use Rattle.rect_order.proofs.Meet.{plain-bounds}
use Rattle.rect_order.proofs.Tells.{tells-not, tells-one, tells-either}
use Rattle.rect_order.proofs.window.search.Goals as goal

pub returns-then-top-from : goal.returns-then-top-from
returns-then-top-from c = tells-not _ _ _ (λ j a b. absurd (omega arith))

pub write_meets-requires : goal.write_meets-requires
write_meets-requires c =
    let s = c.before.before in
    let p = s.requires in
    let b = plain-bounds s.args.table.now s.args.i 0 p.numbers in
    (p.parts, omega (arith, p.few), p.window, p.plain, rw c.bounds_in-w.ensures b)

pub returns-then-write_meets : goal.returns-then-write_meets
returns-then-write_meets c =
    let t = (rw c.bounds_in-w.ensures at (c.write_meets.ensures.some c.if-write_meets.true)) in
    tells-one _ _ _ t.0 t.1 t.2 (inl t.3)

pub returns : goal.returns
returns c =
    let s = c.before.before.before in
    tells-either _ _ _ _ _ _ c.if-write_meets.false (rw s.bounds_in-w.ensures at c.write_meets.ensures) c.reads_meet.ensures
