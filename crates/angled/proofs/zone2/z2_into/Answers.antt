-- `z2_into` meets its contract: the corner is the definition's, and the lists and the strip have room. Assumes nothing.
use native.Mathlib.Omega.{arith}
use mathlib.Core.Path.{◌≡◌, ◌∙◌, ap}
use mathlib.Core.Bool.{Bool, true}
use mathlib.Core.List.{List}
use Prim.Native.Nat.{ℕ, ◌+◌, ◌<◌}
use lib.IntN.{ℤ, pos}
use lib.ListN.{get_or}
use mir.Facts.{to_z-of_z}
use mir.Syntax.{w32}
use mir.Val.{to_z, of_z}
use Rattle.signed.specs.Range.{inside, Edge}
use Rattle.signed.proofs.Bound.{back-abs}
use Rattle.signed.proofs.Range.{inside-abs}
use Rattle.lists.specs.Block.{block}
use Rattle.strength.specs.Corner.{filtered_corner}
use Rattle.strength.proofs.Samples.{corner-inside}
use Rattle.angled.specs.AtAngle.{z2_from}
use Rattle.angled.proofs.zone2.z2_into.Goals as goal

read-back : (z : ℤ) → inside (pos 4095) z ≡ true → to_z w32 (of_z w32 z) ≡ z
read-back z h = back-abs w32 z (omega (arith, inside-abs 4095 z h))

-- the corner, by the first entries
module _ (on : Bool) (n : ℕ) (k : ℤ) (above left : List ℤ) (B : ℕ) (some : 0 < B) (above-in : Edge 4095 B above) (left-in : Edge 4095 B left)
    (k-in : inside (pos 4095) k ≡ true) where
  abbrev l : ℤ
  l = get_or left 0 (pos 0)

  abbrev a : ℤ
  a = get_or above 0 (pos 0)

  abbrev K : ℤ
  K = filtered_corner on n l k a

  K-in : inside (pos 4095) K ≡ true
  K-in = corner-inside 4095 on n l k a (left-in 0 some) k-in (above-in 0 some)

  back : (z : ℤ) → z ≡ filtered_corner on n (to_z w32 (of_z w32 l)) (to_z w32 (of_z w32 k)) (to_z w32 (of_z w32 a)) → to_z w32 (of_z w32 z) ≡ K
  back z e =
      let is : z ≡ K = simp (read-back l (left-in 0 some), read-back k k-in, read-back a (above-in 0 some)) at e in
      ap (λ (y : ℤ). to_z w32 (of_z w32 y)) is ∙ read-back K K-in

pub z2_with-requires-clause-edge : goal.z2_with-requires-clause-edge
z2_with-requires-clause-edge c =
    simp (to_z-of_z, c.ranges.m, back c.args.set.flags.edge_filter (c.args.bs + c.args.bs) c.args.corner c.args.above.now c.args.left.now c.args.bs c.requires.fours.0.0 c.requires.edge.0 c.requires.edge.1 c.requires.edge.2 _ c.corner_of-k.ensures)
    (c.requires.edge.0, c.requires.edge.1, K-in c.args.set.flags.edge_filter (c.args.bs + c.args.bs) c.args.corner c.args.above.now c.args.left.now c.args.bs c.requires.fours.0.0 c.requires.edge.0 c.requires.edge.1 c.requires.edge.2, c.requires.edge.3)

pub returns : goal.returns
returns c =
    let b = back c.args.set.flags.edge_filter (c.args.bs + c.args.bs) c.args.corner c.args.above.now c.args.left.now c.args.bs c.requires.fours.0.0 c.requires.edge.0 c.requires.edge.1 c.requires.edge.2 _ c.corner_of-k.ensures in
    c.z2_with.ensures
    ∙ (λ j. block c.args.bs c.args.bs (z2_from c.args.bs c.args.bs (to_z-of_z c.ranges.m j) c.args.set c.args.above.now c.args.left.now (b j)) c.args.out.now)
