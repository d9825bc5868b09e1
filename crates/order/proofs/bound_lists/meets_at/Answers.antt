-- `meets_at` meets its contract. Assumes nothing.
use mathlib.Core.Bool.{◌&&◌}
use Prim.Native.Nat.{◌+◌}
use borrow.Author.Rules.{sfits_of}
use lib.IntN.{pos}
use lib.ListN.{get_or}
use lib.Signed.{lt_z}
use mir.Syntax.{w16}
use Rattle.signed.proofs.Bound.{back}
use Rattle.order.specs.Sides.{overlap}
use Rattle.order.proofs.bound_lists.meets_at.Goals as goal

pub returns : goal.returns
unfolding overlap
returns c =
    let a = c.args in
    let x0 = back w16 {z = get_or a.lists.now a.j (pos 0)} (sfits_of c.x0-1.given) in
    let x1 = back w16 {z = get_or a.lists.now (1024 + a.j) (pos 0)} (sfits_of c.x1-1.given) in
    let y0 = back w16 {z = get_or a.lists.now (2048 + a.j) (pos 0)} (sfits_of c.y0-1.given) in
    let y1 = back w16 {z = get_or a.lists.now (3072 + a.j) (pos 0)} (sfits_of c.y1-1.given) in
    let t = c.struct_told-4-1.given in
    let sx0 = back w16 {z = a.s.x0} (sfits_of t.0.1) in
    let sx1 = back w16 {z = a.s.x1} (sfits_of t.1.0.1) in
    let sy0 = back w16 {z = a.s.y0} (sfits_of t.1.1.0.1) in
    let sy1 = back w16 {z = a.s.y1} (sfits_of t.1.1.1.0.1) in
    λ i. lt_z (x0 i) (sx1 i) && lt_z (sx0 i) (x1 i) && lt_z (y0 i) (sy1 i) && lt_z (sy0 i) (y1 i)
