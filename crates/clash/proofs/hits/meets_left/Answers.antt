-- `meets_left` meets its contract. Assumes nothing.
use borrow.Author.Tests.{not-true, not-false}
use mathlib.Core.Path.{refl}
use mathlib.Core.Bool.{◌||◌}
use Rattle.clash.proofs.Runs.{both-off, meet-on}
use Rattle.clash.proofs.hits.meets_left.Goals as goal

pub returns-then-not-s : goal.returns-then-not-s
returns-then-not-s c = let s = c.args.s in both-off _ s.have_left (not-true s.have_left c.if-not-s.true) _ _ _ _ _ _ _ _

pub overflow_sub-x : goal.overflow_sub-x
overflow_sub-x c = c.requires.1.left (not-false c.args.s.have_left c.if-not-s.false)

pub returns : goal.returns
returns c =
    let s = c.args.s in
    let on = not-false s.have_left c.if-not-s.false in
    let near = meet-on _ s.have_left on _ _ _ _ _ _ refl c.min-h.ensures _ c.meet-near.ensures in
    let far = meet-on _ s.have_left on _ _ _ _ _ _ refl c.min-h-2.ensures _ c.meet-far.ensures in
    λ j. near j || far j
