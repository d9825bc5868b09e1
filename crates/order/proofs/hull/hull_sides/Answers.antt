-- `hull_sides` meets its contract. Assumes nothing.
use native.Mathlib.Omega.{arith}
use mathlib.Core.Path.{sym, ◌∙◌, ap}
use Rattle.clash.specs.Hull.{hull_of, only_if}
use Rattle.order.specs.Sides.{sides_of}
use Rattle.order.proofs.hull.hull_sides.Goals as goal

pub returns-then-not-on : goal.returns-then-not-on
returns-then-not-on c = let a = c.args in c.none.ensures ∙ ap (λ b. sides_of (only_if b (hull_of a.s))) (sym (c.if-not-on.true))

pub hull-requires : goal.hull-requires
hull-requires c = (c.requires (c.if-not-on.false)).near

pub sides_of-requires : goal.sides_of-requires
sides_of-requires c =
    let p = c.requires (c.if-not-on.false) in
    let e = c.hull.ensures in
    (omega (arith, p.across, ap (λ R. R.x) e, ap (λ R. R.w) e), omega (arith, p.down, ap (λ R. R.y) e, ap (λ R. R.h) e))

pub returns : goal.returns
returns c =
    let a = c.args in
    c.sides_of.ensures ∙ ap sides_of c.hull.ensures ∙ ap (λ b. sides_of (only_if b (hull_of a.s))) (sym (c.if-not-on.false))
