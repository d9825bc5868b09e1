-- `corner_at` meets its contract: by which neighbours are there. Assumes nothing.
use borrow.Author.Rules.{rules}
use mathlib.Core.Path.{◌∙◌, sym, ap}
use mathlib.Core.Bool.{cond}
use Prim.Native.Nat.{◌+◌, ◌*◌, ◌^◌, ◌<◌}
use Rattle.sides.specs.declared.Spot.TheVariants.{Sample, Number}
use Rattle.sides.specs.Spot.{spot_of}
use Rattle.sides.proofs.Words.{word-is}
use Rattle.block_spec.proofs.Behind.{corner-by-both, corner-by-above}
use Rattle.sides.proofs.Sides.{corner-missing}
use Rattle.sides.proofs.corner_at.Goals as goal

pub returns-then-s-2 : goal.returns-then-s-2
returns-then-s-2 c =
    let s = c.args.s in
    ap Sample (c.place.ensures ∙ (λ j. c.before-row.ensures j * c.args.width + c.before-then-s-2.ensures j))
    ∙ sym (ap (spot_of c.args.width) (corner-by-both s c.if-s.true c.if-s-2.true))

pub returns-then-s : goal.returns-then-s
returns-then-s c =
    let s = c.args.s in
    ap Sample (c.place-then-s.ensures ∙ ap (λ r. r * c.args.width + s.x) c.before-row.ensures)
    ∙ sym (ap (spot_of c.args.width) (corner-by-above s c.if-s.true c.if-s-2.false))

pub returns : goal.returns
returns c =
    let s = c.args.s in
    let small : s.base < 2 ^ 16 = search rules in
    let aside = c.place-2.ensures ∙ ap (λ r. s.y * c.args.width + r) c.before-2.ensures in
    c.spot_of.ensures
    ∙ (λ j. cond s.have_left (Sample (aside j)) (Number (word-is s.base small j)))
    ∙ sym (corner-missing c.args.width s c.if-s.false)
