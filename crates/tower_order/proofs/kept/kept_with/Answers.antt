-- `kept_with` meets its contract: the table has the rectangles of the plan. Assumes nothing.
use mathlib.Core.Path.{◌∙◌, ap}
use native.Mathlib.Omega.{arith}
use lib.IntN.{pos}
use lib.ListN.{length, length-replicate}
use Rattle.rect_order.proofs.Table.{plain-zeros}
use Rattle.tower_order.proofs.Tables.{kept-is}
use Rattle.tower_order.proofs.kept.kept_with.Goals as goal

pub fill-requires : goal.fill-requires
fill-requires c =
    let p = c.requires in
    let long = ap length p.1 ∙ length-replicate 24576 (pos 0) in
    (p.0.wide, p.0.high, omega (arith, p.0.whole), omega (arith, p.0.few), rw p.1 (plain-zeros 24576))

pub kept-requires : goal.kept-requires
kept-requires c =
    let p = c.requires in
    let long = ap length p.1 ∙ length-replicate 24576 (pos 0) in
    record {
      few = p.0.few;
      once = p.0.once;
      long = omega (arith, p.0.few);
      plain = c.fill.ensures.plain;
    }

pub returns : goal.returns
returns c =
    c.kept.ensures ∙ kept-is _ _ _ _ _ _ c.requires.0 c.fill.ensures
