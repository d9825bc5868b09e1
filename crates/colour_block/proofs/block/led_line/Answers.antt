-- `led_line` meets its contract: the two parts of the row are lent one after the other. Assumes nothing.
use mathlib.Core.Path.{refl, sym, ◌∙◌}
use native.Mathlib.Omega.{arith}
use lib.ListN.{length}
use Rattle.lists.proofs.Fill.{filled_none, filled-part, filled-all}
use Rattle.colour_block.proofs.Along.{head-part, tail-part, sample_at, head-same, tail-same}
use Rattle.colour_block.proofs.block.led_line.Goals as goal

pub row_at-requires : goal.row_at-requires
row_at-requires c = let s = c.before in (s.requires.0, s.requires.1, head-part _ _ _ _ _ _ s.requires.2 s.args.row.now refl)

pub row_at-requires-2 : goal.row_at-requires-2
row_at-requires-2 c =
    let a = c.before in
    let s = a.before.before.before in
    (s.requires.0, s.requires.1, tail-part _ _ _ _ _ _ s.requires.2 _ a.row-1.given.1)

pub returns : goal.returns
returns c =
    let a = c.before.before.before in
    let s = a.before.before.before in
    let l = s.requires.2 in
    let row = s.args.row.now in
    let lead = s.args.lead in
    let f = sample_at s.args.k s.args.luma.now s.args.s s.args.step lead (length row) l in
    let first = filled-part 0 lead f _ row row _ (omega arith) l.leads (sym (filled_none f row)) a.row_at.ensures (λ i h. head-same _ _ _ _ _ _ l i (omega arith)) in
    filled-part lead (length row) f _ row _ _ l.leads (omega (arith, a.row-1.given.1)) first c.row_at-2.ensures (tail-same _ _ _ _ _ _ l)
    ∙ filled-all (length row) f row refl
