-- `clipped` meets its contract: the two steps are the definition's, since m is not below 0. Assumes nothing.
use borrow.Author.Rules.{sfits_of}
use mathlib.Core.Path.{◌≡◌, ◌∙◌}
use mathlib.Core.Bool.{cond}
use lib.IntN.{pos}
use lib.Signed.{lt_z}
use mir.Syntax.{w32}
use mir.Facts.{to_z-of_z}
use Rattle.signed.proofs.Bound.{back}
use Rattle.taps.proofs.Laws.{clip-steps}
use Rattle.taps.proofs.value.clipped.Goals as goal
use Rattle.taps.proofs.value.clipped.Lts as lts
use Rattle.taps.proofs.value.clipped.Reads as reads
use Rattle.taps.proofs.value.clipped.Tie as tie

abbrev At-After-select-y : Type 0
At-After-select-y = lts.After-select tie.the-claims reads.Pre reads.Post

y-is : (c : At-After-select-y) → c.select-y.result ≡ cond (lt_z c.args.x (pos 0)) (pos 0) c.args.x
y-is c = simp (to_z-of_z, c.ranges.x) at c.select-y.ensures

pub returns : goal.returns
returns c =
    let e = c.before in
    let s = e.before in
    back w32 {z = c.select.result} (sfits_of c.select.type_inv)
    ∙ (simp (back w32 {z = e.select-y.result} (sfits_of e.select-y.type_inv), to_z-of_z, s.ranges.m) at c.select.ensures)
    ∙ (λ j. cond (lt_z s.args.m (y-is e j)) s.args.m (y-is e j))
    ∙ clip-steps 4095 s.args.m s.args.x s.requires
