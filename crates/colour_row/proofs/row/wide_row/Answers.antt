-- `wide_row` meets its contract. Assumes nothing.
use borrow.Author.Rules.{sfits_of}
use native.Mathlib.Omega.{arith}
use mathlib.Core.Path.{sym, ◌∙◌}
use lib.IntN.{pos}
use mir.Syntax.{w32}
use Rattle.lists.proofs.Fill.{filled_none, filled_more}
use Rattle.signed.proofs.Bound.{back}
use Rattle.colour_row.specs.Runs.{at}
use Rattle.colour_row.proofs.Held.{luma-back}
use Rattle.colour_row.proofs.row.wide_row.Goals as goal

pub loop-i-init : goal.loop-i-init
loop-i-init c = sym (filled_none _ _)

pub loop-i-preserved : goal.loop-i-preserved
loop-i-preserved c =
    let i = c.loop-i.i in
    let r = c.requires.2 in
    let n = luma-back c.args.k c.requires.0 (at c.args.near.now i) (r.near-in i (omega arith)) in
    let v = luma-back c.args.k c.requires.0 (at c.args.centre.now i) (r.centre-in i (omega arith)) in
    let told = back w32 {z = c.wide_sample.result} (sfits_of c.wide_sample.type_inv) ∙ (simp (n, v) at c.wide_sample.ensures) in
    filled_more i _ _ _ _ (pos 0) (omega arith) c.loop-i.invariant told
