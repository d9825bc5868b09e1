-- `wide_lines` meets its contract: each table is its parameter's. Assumes nothing.
use borrow.Author.Rules.{sfits_of}
use mir.Syntax.{w32}
use Rattle.signed.proofs.Bound.{back}
use Rattle.colour_block.proofs.block.wide_lines.Goals as goal

pub lines-requires : goal.lines-requires
lines-requires c =
    let k = c.args.k in
    let first = simp (back w32 {z = k.p0} (sfits_of c.struct_told-1.given.1.1.1.0.1)) at c.fill.ensures in
    let second = simp (back w32 {z = k.p1} (sfits_of c.struct_told-2-1.given.1.1.1.1.0.1)) at c.fill-2.ensures in
    record { block_accepted = c.requires.block_accepted; mix_ready = (c.requires.mix_ready.0, c.requires.mix_ready.1, λ e. record { first = first; second = second }) }
