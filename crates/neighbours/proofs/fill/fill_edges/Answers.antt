-- `fill_edges` meets its contract: the corner, and both neighbours, each by its places in the plane's list. Assumes nothing.
use borrow.Author.Rules.{sfits_of}
use mathlib.Core.Path.{◌≡◌, refl, ◌∙◌, ap}
use mathlib.Core.List.{List}
use Prim.Native.Nat.{ℕ, ◌<◌}
use lib.Ieee.{Float}
use lib.IntN.{ℤ}
use lib.Signed.{mag}
use Rattle.block_spec.specs.declared.spec.IntraRefSpec.{IntraRefSpec}
use Rattle.sides.specs.declared.Spot.{Spot}
use mir.Syntax.{w32}
use mir.Val.{to_z, of_z}
use Rattle.signed.proofs.Bound.{back}
use Rattle.edge_line.proofs.Onward.{edge-cleared}
use Rattle.block_spec.specs.Behind.{above_behind, left_behind, corner_behind}
use Rattle.block_spec.proofs.Placed.{first_fits}
use Rattle.sides.specs.Spot.{spot_of, spot_value}
use Rattle.sides.specs.Side.{above_side, left_side}
use Rattle.sides.specs.Values.{value_of}
use Rattle.sides.proofs.Sides.{above-lies, left-lies, corner-lies, above-value, left-value}
use Rattle.neighbours.proofs.Made.{asked, gives}
use Rattle.sides.proofs.Tested.{above-readable, left-readable, corner-read, readable}
use Rattle.neighbours.proofs.fill.fill_edges.Goals as goal

-- the corner's number
corner-is : (W : ℕ) (plane : List Float) (s : IntraRefSpec) (z : ℤ) (at : Spot) → mag z < 2147483648 → z ≡ spot_value plane at → at ≡ spot_of W (corner_behind s)
    → to_z w32 (of_z w32 z) ≡ value_of W plane (corner_behind s)
corner-is W plane s z at fits is e = back w32 {z = z} (sfits_of fits) ∙ is ∙ ap (spot_value plane) e

pub value_at-corner-requires : goal.value_at-corner-requires
value_at-corner-requires c =
    let s = c.args.s in
    let p = c.requires.placed.0 in
    rw c.corner_at.ensures (corner-lies p, readable s.d c.args.plane.now (spot_of c.args.width (corner_behind s)) p.stands.is-depth (corner-read _ _ _ c.requires.placed.1))

pub fill_side-requires : goal.fill_side-requires
fill_side-requires c =
    let p = c.requires.placed.0 in
    let k = asked c.args.plane.now _ (above_side c.args.width c.args.s) c.above_of.ensures (above-lies p, above-readable _ _ _ c.requires.placed.1 p.stands.is-depth) in
    record { side_lies = (k.0, c.requires.in_bounds.0); readable = k.1 }

pub left_of-requires : goal.left_of-requires
left_of-requires c = first_fits c.requires.placed.0

pub fill_side-requires-2 : goal.fill_side-requires-2
fill_side-requires-2 c =
    let p = c.requires.placed.0 in
    let k = asked c.args.plane.now _ (left_side c.args.width c.args.s) c.left_of.ensures (left-lies p, left-readable _ _ _ c.requires.placed.1 p.stands.is-depth) in
    record { side_lies = (k.0, c.requires.in_bounds.1); readable = k.1 }

pub returns : goal.returns
returns c =
    let W = c.args.width in
    let s = c.args.s in
    let plane = c.args.plane.now in
    let small = c.requires.placed.0.stands.side.1 in
    let corner = corner-is W plane s c.value_at-corner.result _ c.value_at-corner.type_inv c.value_at-corner.ensures c.corner_at.ensures in (
      edge-cleared s.b _ c.args.above.now _ _ small c.requires.in_bounds.0
          (
          c.fill_side.ensures
          ∙ gives plane _ (above_side W s) c.above_of.ensures W s _ _ (above_behind s) c.args.above.now refl
          (back w32 {z = c.above_spare.result} (sfits_of c.above_spare.type_inv) ∙ c.above_spare.ensures) (above-value W s plane _ corner)
          )
          c.clear_rest.ensures,
      edge-cleared s.b _ c.args.left.now _ _ small c.requires.in_bounds.1
          (
          c.fill_side-2.ensures
          ∙ gives plane _ (left_side W s) c.left_of.ensures W s _ _ (left_behind s) c.args.left.now refl
          (back w32 {z = c.left_spare.result} (sfits_of c.left_spare.type_inv) ∙ c.left_spare.ensures) (left-value W s plane _ corner)
          )
          c.clear_rest-2.ensures,
      corner,
    )
