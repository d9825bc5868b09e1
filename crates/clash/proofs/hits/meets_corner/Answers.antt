-- `meets_corner` meets its contract. Assumes nothing.
use borrow.Author.Tests.{not-true, not-false}
use mathlib.Core.Path.{refl}
use mathlib.Core.Bool.{◌&&◌}
use Rattle.edge_line.proofs.Every.{and-of}
use Rattle.clash.proofs.Runs.{meet-off, meet-on, and_no, no-and}
use Rattle.clash.proofs.hits.meets_corner.Goals as goal

pub returns-then-not-s : goal.returns-then-not-s
returns-then-not-s c = let s = c.args.s in meet-off _ (s.have_above && s.have_left) (and_no s.have_above _ (not-true s.have_above c.if-not-s.true)) _ _ _ _

pub returns-then-not-s-2 : goal.returns-then-not-s-2
returns-then-not-s-2 c = let s = c.args.s in meet-off _ (s.have_above && s.have_left) (no-and s.have_above _ (not-true s.have_left c.if-not-s-2.true)) _ _ _ _

pub overflow_sub-x : goal.overflow_sub-x
overflow_sub-x c = c.requires.1.left (not-false c.args.s.have_left c.if-not-s-2.false)

pub overflow_sub-y : goal.overflow_sub-y
overflow_sub-y c = c.requires.1.above (not-false c.args.s.have_above c.if-not-s.false)

pub returns : goal.returns
returns c =
    let s = c.args.s in
    let on = and-of s.have_above s.have_left (not-false s.have_above c.if-not-s.false) (not-false s.have_left c.if-not-s-2.false) in
    meet-on _ (s.have_above && s.have_left) on _ _ _ _ _ _ refl refl _ c.meet.ensures
