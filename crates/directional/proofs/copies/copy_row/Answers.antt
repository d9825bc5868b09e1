-- `copy_row` meets its contract. Assumes nothing.
use Rattle.std.proofs.Common.{rules}
use Rattle.signed.proofs.Entry.{entry_small, entry_back}
use Rattle.directional.proofs.copies.copy_row.Goals as goal

pub fill_long-requires : goal.fill_long-requires
fill_long-requires c = λ i h.
    let small = entry_small _ _ c.requires.1 i h in
    let back = entry_back _ _ c.requires.1 i h in
    simp back (search rules)
