-- `meets_at` meets its contract. Assumes nothing.
use mathlib.Core.Bool.{◌&&◌}
use Prim.Native.Nat.{◌+◌}
use borrow.Author.Rules.{sfits_of}
use Rattle.reorder.specs.Rect.{meet_b}
use Rattle.rect_order.proofs.Meet.{strip}
use Rattle.rect_order.proofs.columns.meets_at.Goals as goal

pub returns : goal.returns
unfolding meet_b
returns c =
    let c1 = c.before.before.before in
    let c2 = c1.before.before.before in
    let c3 = c2.before.before.before in
    let p = c3.args.p in
    let pre = c3.requires in
    let t = c.struct_told-4-1.given in
    let across =
    strip _ _ _ _ c3.larger-x0.result c2.smaller-x1.result
    (record { fits = sfits_of t.0.1; plain = pre.3.x0 })
    (record { fits = sfits_of t.1.0.1; plain = pre.3.x1 })
    (record { fits = sfits_of c3.larger-arg-1.given; plain = pre.2 p })
    (record { fits = sfits_of c2.smaller-arg-1.given; plain = pre.2 (1024 + p) })
    (sfits_of c3.larger-x0.type_inv) (sfits_of c2.smaller-x1.type_inv) c3.larger-x0.ensures c2.smaller-x1.ensures in
    let down =
    strip _ _ _ _ c1.larger-y0.result c.smaller-y1.result
    (record { fits = sfits_of t.1.1.0.1; plain = pre.3.y0 })
    (record { fits = sfits_of t.1.1.1.0.1; plain = pre.3.y1 })
    (record { fits = sfits_of c1.larger-arg-2-1.given; plain = pre.2 (2048 + p) })
    (record { fits = sfits_of c.smaller-arg-2-1.given; plain = pre.2 (3072 + p) })
    (sfits_of c1.larger-y0.type_inv) (sfits_of c.smaller-y1.type_inv) c1.larger-y0.ensures c.smaller-y1.ensures in
    λ i. across i && down i
