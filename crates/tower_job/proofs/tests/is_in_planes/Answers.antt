-- `is_in_planes` meets its contract, sum by sum. Assumes nothing.
use mathlib.Core.Bool.{◌&&◌}
use Rattle.tower_job.specs.Tests.{is_in_planes}
use Rattle.tower_job.proofs.tests.is_in_planes.Goals as goal

pub returns : goal.returns
unfolding is_in_planes
returns c =
    λ j. c.is_span-luma_across.ensures j && c.is_span-luma_down.ensures j
    && c.is_span-chroma_across.ensures j && c.is_span-chroma_down.ensures j && c.is_span-across.ensures j && c.is_span-down.ensures j
