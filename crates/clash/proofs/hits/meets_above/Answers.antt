-- `meets_above` meets its contract. Assumes nothing.
use borrow.Author.Tests.{not-true, not-false}
use mathlib.Core.Path.{refl}
use mathlib.Core.Bool.{◌||◌}
use Rattle.clash.proofs.Runs.{both-off, meet-on}
use Rattle.clash.proofs.hits.meets_above.Goals as goal

pub returns-then-not-s : goal.returns-then-not-s
returns-then-not-s c = let s = c.args.s in both-off _ s.have_above (not-true s.have_above c.if-not-s.true) _ _ _ _ _ _ _ _

pub overflow_sub-y : goal.overflow_sub-y
overflow_sub-y c = c.requires.1.above (not-false c.args.s.have_above c.if-not-s.false)

pub returns : goal.returns
returns c =
    let s = c.args.s in
    let on = not-false s.have_above c.if-not-s.false in
    let near = meet-on _ s.have_above on _ _ _ _ _ _ c.min-w.ensures refl _ c.meet-near.ensures in
    let far = meet-on _ s.have_above on _ _ _ _ _ _ c.min-w-2.ensures refl _ c.meet-far.ensures in
    λ j. near j || far j
