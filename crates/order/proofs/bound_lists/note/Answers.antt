-- `note` meets its contract. Assumes nothing.
use native.Mathlib.Omega.{arith}
use Prim.Native.Nat.{◌+◌}
use borrow.Author.Rules.{sfits_of}
use lib.ListN.{set, length-set}
use mir.Syntax.{w16}
use Rattle.signed.proofs.Bound.{back}
use Rattle.order.specs.Sides.{noted}
use Rattle.order.proofs.bound_lists.note.Goals as goal

pub bounds-lists-j-2 : goal.bounds-lists-j-2
bounds-lists-j-2 c = simp length-set (omega arith)

pub bounds-lists-j-3 : goal.bounds-lists-j-3
bounds-lists-j-3 c = simp length-set (omega arith)

pub bounds-lists-j-4 : goal.bounds-lists-j-4
bounds-lists-j-4 c = simp length-set (omega arith)

pub returns : goal.returns
unfolding noted
returns c =
    let t = c.struct_told-4-1.given in
    let a = c.args in
    let x0 = back w16 {z = a.s.x0} (sfits_of t.0.1) in
    let x1 = back w16 {z = a.s.x1} (sfits_of t.1.0.1) in
    let y0 = back w16 {z = a.s.y0} (sfits_of t.1.1.0.1) in
    let y1 = back w16 {z = a.s.y1} (sfits_of t.1.1.1.0.1) in
    λ i. set (set (set (set a.lists.now a.j (x0 i)) (1024 + a.j) (x1 i)) (2048 + a.j) (y0 i)) (3072 + a.j) (y1 i)
