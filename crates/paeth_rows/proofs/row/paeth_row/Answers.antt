-- `paeth_row` meets its contract. Assumes nothing.
use mir.Facts.{to_z-of_z}
use Rattle.signed.proofs.Entry.{entry_small, entry_back}
use Rattle.std.proofs.Common.{rules}
use Rattle.paeth_rows.proofs.row.paeth_row.Goals as goal

pub fill-requires : goal.fill-requires
fill-requires c = λ i h.
    let small = entry_small _ _ c.requires.1 i h in
    let back = entry_back _ _ c.requires.1 i h in
    simp (to_z-of_z, c.ranges.l, c.ranges.corner, back) (search rules)
