-- `is_spare` meets its contract, word by word. Assumes nothing.
use mathlib.Core.Bool.{◌&&◌}
use lib.Dec.{eqb}
use Rattle.tower_job.specs.Tests.{is_spare}
use Rattle.tower_job.proofs.tests.is_spare.Goals as goal

pub returns : goal.returns
unfolding is_spare
returns c =
    λ j. eqb (c.word-a.ensures j) 0 && eqb (c.word-b.ensures j) 0 && eqb (c.word-c.ensures j) 0
    && eqb (c.word-d.ensures j) 0
