-- `entries_in_range` meets its contract. Assumes nothing.
use mathlib.Core.Path.{sym, ◌∙◌}
use mir.Facts.{to_z-of_z}
use Rattle.direct_calls.specs.Direct.{entries_in_range}
use Rattle.direct_calls.proofs.direct.entries_in_range.Goals as goal

pub returns-then-not-both_in_range : goal.returns-then-not-both_in_range
unfolding entries_in_range
returns-then-not-both_in_range c =
    let both = simp (to_z-of_z, c.ranges.m) at c.both_in_range.ensures in
    simp (sym both ∙ c.if-not-both_in_range.true)

pub returns : goal.returns
unfolding entries_in_range
returns c =
    let both = simp (to_z-of_z, c.ranges.m) at c.both_in_range.ensures in
    simp (sym both ∙ c.if-not-both_in_range.false) (simp (to_z-of_z, c.ranges.m, c.ranges.corner) at c.in_range.ensures)
