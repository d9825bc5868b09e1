-- `is_tower` meets its contract, test by test. Assumes nothing.
use mathlib.Core.Bool.{not, ◌&&◌}
use lib.Dec.{eqb, leb}
use Rattle.tower_job.specs.Tests.{is_tower}
use Rattle.tower_job.proofs.tests.is_tower.Goals as goal

pub returns : goal.returns
unfolding is_tower
returns c =
    let p = c.word-plane.ensures in
    λ j. leb (p j) 2 && not (c.is_colour.ensures j && eqb (p j) 0) && leb (c.word-top.ensures j) 1
    && leb (c.word-left.ensures j) 1 && c.is_spare-spare.ensures j
