-- `is_inside` meets its contract. Assumes nothing.
use borrow.Author.Tests.{le-leb, lt-leb}
use mathlib.Core.Path.{sym, ap}
use mathlib.Core.Bool.{◌&&◌}
use Prim.Native.Nat.{◌+◌}
use lib.Dec.{leb}
use Rattle.block_spec.specs.Rules.{is_inside}
use Rattle.block_spec.proofs.rules.is_inside.Goals as goal

pub returns-then-w-s : goal.returns-then-w-s
unfolding is_inside
returns-then-w-s c = simp (lt-leb _ _ c.if-w-s.true)

pub returns : goal.returns
unfolding is_inside
returns c =
    let e = c.before.before in
    let s = e.args.s in
    let h = e.args.h in
    sym (ap (λ t. t && leb (s.y + s.b) h) (le-leb _ _ e.if-w-s.false))
