-- `directional_into` meets its contract: each way writes the block that its tests pick. Assumes nothing.
use borrow.Author.Tests.{lt-ltb, le-ltb}
use native.Mathlib.Omega.{arith}
use mathlib.Core.Path.{◌≡◌, sym, ◌∙◌}
use mathlib.Core.Bool.{true}
use mathlib.Core.List.{List}
use Prim.Native.Nat.{ℕ, ◌*◌, ◌≤◌}
use lib.IntN.{ℤ, pos, nat_abs}
use lib.ListN.{length}
use mir.Facts.{to_z-of_z}
use Rattle.signed.specs.Range.{inside, Edge}
use Rattle.signed.proofs.Range.{inside-abs}
use Rattle.direct_calls.specs.Given.{Given}
use Rattle.direct_calls.proofs.Given.{given-more}
use Rattle.directional.proofs.Named.{fours}
use Rattle.directional.proofs.Cases.{not-ninety, not-half, down, across, in_one, in_two, in_three}
use Rattle.directional.proofs.choice.directional_into.Goals as goal

-- the edges and the corner hold samples
module _ (B : ℕ) (m : ℤ) (above left : List ℤ) (k : ℤ) (n : ℕ) (given : Given B (nat_abs m) above left k n) (depth : inside (pos 4095) m ≡ true) where
  samples : Given B 4095 above left k n
  samples = given-more (inside-abs 4095 m depth) given

  above_in : (i : ℕ) → i ≤ 2 * B → Edge 4095 i above
  above_in i h j l = samples.above_in j (omega arith)

  left_in : (i : ℕ) → i ≤ 2 * B → Edge 4095 i left
  left_in i h j l = samples.left_in j (omega arith)

pub copy_down-requires : goal.copy_down-requires
copy_down-requires c =
    (omega (arith, c.requires.given.above-long), above_in c.args.bs c.args.m c.args.above.now c.args.left.now c.args.corner (length c.args.out.now) c.requires.given c.requires.m_value.0 c.args.bs (omega arith), c.requires.given.out-long)

pub copy_across-requires : goal.copy_across-requires
copy_across-requires c =
    (omega (arith, c.requires.given.left-long), left_in c.args.bs c.args.m c.args.above.now c.args.left.now c.args.corner (length c.args.out.now) c.requires.given c.requires.m_value.0 c.args.bs (omega arith), c.requires.given.out-long)

pub z1_into-requires-clause-fours : goal.z1_into-requires-clause-fours
z1_into-requires-clause-fours c =
    (fours c.args.bs c.requires.given.size, c.requires.m_value.1, omega arith, omega (arith, c.requires.given.above-long), c.requires.given.out-long)

pub z1_into-requires-clause-edge : goal.z1_into-requires-clause-edge
z1_into-requires-clause-edge c =
    simp (to_z-of_z, c.ranges.m, c.ranges.corner) (λ i h. c.requires.given.above_in i (omega arith), c.requires.given.corner-in, c.requires.m_value.0)

pub z2_into-requires-clause-fours : goal.z2_into-requires-clause-fours
z2_into-requires-clause-fours c =
    let n = not-ninety c.args.set (sym c.is_down.ensures ∙ c.if-is_down.false) in
    (fours c.args.bs c.requires.given.size, omega (arith, n), omega arith, omega (arith, c.requires.given.above-long), omega (arith, c.requires.given.left-long), c.requires.given.out-long)

pub z2_into-requires-clause-edge : goal.z2_into-requires-clause-edge
z2_into-requires-clause-edge c =
    let a = above_in c.args.bs c.args.m c.args.above.now c.args.left.now c.args.corner (length c.args.out.now) c.requires.given c.requires.m_value.0 c.args.bs (omega arith) in
    let l = left_in c.args.bs c.args.m c.args.above.now c.args.left.now c.args.corner (length c.args.out.now) c.requires.given c.requires.m_value.0 c.args.bs (omega arith) in
    let s = samples c.args.bs c.args.m c.args.above.now c.args.left.now c.args.corner (length c.args.out.now) c.requires.given c.requires.m_value.0 in
    simp (to_z-of_z, c.ranges.m, c.ranges.corner) (a, l, s.corner-in, c.requires.m_value.0)

pub z3_into-requires-clause-fours : goal.z3_into-requires-clause-fours
z3_into-requires-clause-fours c =
    let n = not-half c.args.set (sym c.is_across.ensures ∙ c.if-is_across.false) in
    (fours c.args.bs c.requires.given.size, omega (arith, n), c.requires.m_value.2, omega (arith, c.requires.given.left-long), c.requires.given.out-long)

pub z3_into-requires-clause-edge : goal.z3_into-requires-clause-edge
z3_into-requires-clause-edge c =
    simp (to_z-of_z, c.ranges.m, c.ranges.corner) (λ i h. c.requires.given.left_in i (omega arith), c.requires.given.corner-in, c.requires.m_value.0)

pub returns-then-is_down : goal.returns-then-is_down
returns-then-is_down c =
    c.copy_down.ensures
    ∙ down c.args.bs c.args.bs c.args.m c.args.set c.args.above.now c.args.left.now c.args.corner c.args.out.now (sym c.is_down.ensures ∙ c.if-is_down.true)

pub returns-then-is_across : goal.returns-then-is_across
returns-then-is_across c =
    c.copy_across.ensures
    ∙ across c.args.bs c.args.bs c.args.m c.args.set c.args.above.now c.args.left.now c.args.corner c.args.out.now (sym c.is_down.ensures ∙ c.if-is_down.false) (sym c.is_across.ensures ∙ c.if-is_across.true)

pub returns-then-set-lt90 : goal.returns-then-set-lt90
returns-then-set-lt90 c =
    (simp (to_z-of_z, c.ranges.m, c.ranges.corner) at c.z1_into.ensures)
    ∙ in_one c.args.bs c.args.bs c.args.m c.args.set c.args.above.now c.args.left.now c.args.corner c.args.out.now (sym c.is_down.ensures ∙ c.if-is_down.false) (sym c.is_across.ensures ∙ c.if-is_across.false) (lt-ltb c.args.set.angle 90 (omega arith))

pub returns-then-set-lt180 : goal.returns-then-set-lt180
returns-then-set-lt180 c =
    (simp (to_z-of_z, c.ranges.m, c.ranges.corner) at c.z2_into.ensures)
    ∙ in_two c.args.bs c.args.bs c.args.m c.args.set c.args.above.now c.args.left.now c.args.corner c.args.out.now (sym c.is_down.ensures ∙ c.if-is_down.false) (sym c.is_across.ensures ∙ c.if-is_across.false) (le-ltb c.args.set.angle 90 (omega arith)) (lt-ltb c.args.set.angle 180 (omega arith))

pub returns-else-set-lt180 : goal.returns-else-set-lt180
returns-else-set-lt180 c =
    (simp (to_z-of_z, c.ranges.m, c.ranges.corner) at c.z3_into.ensures)
    ∙ in_three c.args.bs c.args.bs c.args.m c.args.set c.args.above.now c.args.left.now c.args.corner c.args.out.now (sym c.is_down.ensures ∙ c.if-is_down.false) (sym c.is_across.ensures ∙ c.if-is_across.false) (le-ltb c.args.set.angle 90 (omega arith)) (le-ltb c.args.set.angle 180 (omega arith))
