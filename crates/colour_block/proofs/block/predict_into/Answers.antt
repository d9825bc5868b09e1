-- `predict_into` meets its contract: whichever product serves, the rows are the definition's block. Assumes nothing.
use mathlib.Core.Path.{◌∙◌, sym}
use mathlib.Core.Bool.{true≢false}
use mir.Facts.{to_z-of_z}
use Rattle.colour_block.proofs.Taken.{block-is}
use Rattle.colour_block.proofs.block.predict_into.Goals as goal

pub lines-requires : goal.lines-requires
lines-requires c =
    let t = c.before.before.before in
    let o = t.before in
    let s = o.before in
    record { block_accepted = s.requires; mix_ready = (o.of-k.ensures.0, o.of-k.ensures.1.bits, λ e. absurd (true≢false (sym t.if-k.true ∙ e))) }

pub returns-then-k : goal.returns-then-k
returns-then-k c =
    let o = c.before.before.before.before.before.before in
    let s = o.before in
    let made = simp (to_z-of_z, s.ranges.p0, s.ranges.p1, s.ranges.p2) at o.of-k.ensures.1 in
    c.lines.ensures ∙ block-is s.args.b _ s.requires.place o.of-k.result s.args.luma.now _ _ _ made s.args.out.now

pub returns-else-k : goal.returns-else-k
returns-else-k c =
    let o = c.before.before.before.before in
    let s = o.before in
    let made = simp (to_z-of_z, s.ranges.p0, s.ranges.p1, s.ranges.p2) at o.of-k.ensures.1 in
    c.tabled.ensures ∙ block-is s.args.b _ s.requires.place o.of-k.result s.args.luma.now _ _ _ made s.args.out.now
