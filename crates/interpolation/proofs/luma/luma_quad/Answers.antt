-- `luma_quad` meets its contract: four samples, and four stores that fill the row. Assumes nothing.
use mir.Facts.{to_z-of_z}
use Rattle.lists.proofs.Block.{four-stores}
use Rattle.interpolation.proofs.luma.luma_quad.Goals as goal

pub returns : goal.returns
returns c =
    four-stores _ c.args.row.now _ _ _ _ c.requires.row_len.0
    (simp (to_z-of_z, c.ranges.f0, c.ranges.f1, c.ranges.f2, c.ranges.f3, c.ranges.m) at c.luma_at-x.ensures)
    (simp (to_z-of_z, c.ranges.f0, c.ranges.f1, c.ranges.f2, c.ranges.f3, c.ranges.m) at c.luma_at-y.ensures)
    (simp (to_z-of_z, c.ranges.f0, c.ranges.f1, c.ranges.f2, c.ranges.f3, c.ranges.m) at c.luma_at-z.ensures)
    (simp (to_z-of_z, c.ranges.f0, c.ranges.f1, c.ranges.f2, c.ranges.f3, c.ranges.m) at c.luma_at-u.ensures)
