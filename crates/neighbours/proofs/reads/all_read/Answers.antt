-- `all_read` meets its contract: both neighbours and the corner, each by its places in the plane's list. Assumes nothing.
use mathlib.Core.Path.{◌≡◌, refl, sym, ◌∙◌, subst}
use mathlib.Core.Bool.{Bool, true, false, ◌&&◌}
use mathlib.Core.List.{List}
use Prim.Native.Nat.{ℕ}
use lib.Ieee.{Float}
use lib.IntN.{ℤ, pos}
use Rattle.block_spec.specs.declared.spec.IntraRefSpec.{IntraRefSpec}
use Rattle.block_spec.specs.Placed.{Placed}
use Rattle.sides.specs.declared.Side.{Side}
use lib.ListN.{length}
use mir.Syntax.{w32}
use mir.Val.{SFits, to_z, of_z}
use Rattle.numbers.specs.Depth.{most}
use Rattle.signed.proofs.Bound.{back}
use Rattle.block_spec.specs.Behind.{corner_behind}
use Rattle.block_spec.proofs.Placed.{first_fits}
use Rattle.sides.specs.Spot.{spot_in_range, SpotLies}
use Rattle.sides.specs.Side.{side_read, SideLies, above_side, left_side}
use Rattle.sides.specs.Read.{behind_in_range, all_read}
use Rattle.sides.proofs.Sides.{above-lies, left-lies, corner-lies}
use Rattle.sides.proofs.Tested.{most-inside, all-by-sides}
use Rattle.neighbours.proofs.reads.all_read.Goals as goal

-- M as a call has it
m-is : (d : ℕ) (m : ℤ) → SFits w32 m → m ≡ pos (most d) → to_z w32 (of_z w32 m) ≡ pos (most d)
m-is d m fits e = back w32 fits ∙ e

module _ (plane : List Float) (W : ℕ) (s : IntraRefSpec) where
  -- what the test of a neighbour has shown
  side-is : (r : Bool) (z : ℤ) (made side : Side) → r ≡ side_read z plane made → z ≡ pos (most s.d) → made ≡ side
      → r ≡ side_read (pos (most s.d)) plane side
  side-is r z made side t e d = t ∙ (λ j. side_read (e j) plane (d j))

  -- the code's test is the rule's
  whole : Placed (length plane) W s → (above left corner : Bool)
      → above ≡ side_read (pos (most s.d)) plane (above_side W s)
      → left ≡ side_read (pos (most s.d)) plane (left_side W s)
      → corner ≡ behind_in_range (most s.d) W plane (corner_behind s)
      → (above && left && corner) ≡ all_read plane W s
  whole p above left corner a l k = (λ j. a j && l j && k j) ∙ all-by-sides plane W s p.stands.side.0

pub above_of-requires : goal.above_of-requires
above_of-requires c = first_fits c.requires.0

pub side_read-requires : goal.side_read-requires
side_read-requires c =
    let m = m-is c.args.s.d c.args.m c.ranges.m c.requires.1 in
    (subst (λ d. SideLies (length c.args.plane.now) d) (sym c.above_of.ensures) (above-lies c.requires.0), most-inside _ _ c.requires.0.stands.is-depth m)

pub returns-then-not-side_read : goal.returns-then-not-side_read
returns-then-not-side_read c =
    let m = m-is c.args.s.d c.args.m c.ranges.m c.requires.1 in
    let above = side-is c.args.plane.now c.args.width c.args.s _ _ _ _ c.side_read.ensures m c.above_of.ensures in
    whole c.args.plane.now c.args.width c.args.s c.requires.0 false _ _ (sym c.if-not-side_read.true ∙ above) refl refl

pub left_of-requires : goal.left_of-requires
left_of-requires c = first_fits c.requires.0

pub side_read-requires-2 : goal.side_read-requires-2
side_read-requires-2 c =
    let m = m-is c.args.s.d c.args.m c.ranges.m c.requires.1 in
    (subst (λ d. SideLies (length c.args.plane.now) d) (sym c.left_of.ensures) (left-lies c.requires.0), most-inside _ _ c.requires.0.stands.is-depth m)

pub returns-then-not-side_read-2 : goal.returns-then-not-side_read-2
returns-then-not-side_read-2 c =
    let m = m-is c.args.s.d c.args.m c.ranges.m c.requires.1 in
    let above = side-is c.args.plane.now c.args.width c.args.s _ _ _ _ c.side_read.ensures m c.above_of.ensures in
    let left = side-is c.args.plane.now c.args.width c.args.s _ _ _ _ c.side_read-2.ensures m c.left_of.ensures in
    whole c.args.plane.now c.args.width c.args.s c.requires.0 true false _ (sym c.if-not-side_read.false ∙ above) (sym c.if-not-side_read-2.true ∙ left) refl

pub corner_at-requires : goal.corner_at-requires
corner_at-requires c = first_fits c.requires.0

pub spot_read-requires : goal.spot_read-requires
spot_read-requires c =
    let m = m-is c.args.s.d c.args.m c.ranges.m c.requires.1 in
    (subst (λ x. SpotLies (length c.args.plane.now) x) (sym c.corner_at.ensures) (corner-lies c.requires.0), most-inside _ _ c.requires.0.stands.is-depth m)

pub returns : goal.returns
returns c =
    let m = m-is c.args.s.d c.args.m c.ranges.m c.requires.1 in
    let above = side-is c.args.plane.now c.args.width c.args.s _ _ _ _ c.side_read.ensures m c.above_of.ensures in
    let left = side-is c.args.plane.now c.args.width c.args.s _ _ _ _ c.side_read-2.ensures m c.left_of.ensures in
    whole c.args.plane.now c.args.width c.args.s c.requires.0 true true _ (sym c.if-not-side_read.false ∙ above) (sym c.if-not-side_read-2.false ∙ left)
    (c.spot_read.ensures ∙ (λ j. spot_in_range (m j) c.args.plane.now (c.corner_at.ensures j)))
