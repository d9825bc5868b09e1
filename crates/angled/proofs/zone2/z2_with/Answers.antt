-- `z2_with` meets its contract: the two lists hold the edges that the definition reads. Assumes nothing.
use Prim.Native.Nat.{◌-◌}
use native.Mathlib.Omega.{arith}
use mathlib.Core.Path.{◌∙◌}
use mir.Facts.{to_z-of_z}
use Rattle.setting.proofs.Table.{step-most, steps-within}
use Rattle.angled.proofs.TwoEdges.{above-samples, left-samples, by-strips}
use Rattle.angled.proofs.zone2.z2_with.Goals as goal

pub z2_strips-requires : goal.z2_strips-requires
z2_strips-requires c =
    let f = c.requires.fours.0 in
    let w = steps-within c.args.set.angle c.requires.fours.1 c.requires.fours.2 in
    let top = above-samples c.args.bs c.args.set c.args.corner c.args.above.now _ _ c.requires.edge.0 c.requires.edge.2 (simp (to_z-of_z, c.ranges.corner) at c.above_list.ensures) in
    let left = left-samples c.args.bs c.args.set c.args.corner c.args.left.now _ _ c.requires.edge.1 c.requires.edge.2 (simp (to_z-of_z, c.ranges.corner) at c.left_list.ensures) in
    simp (to_z-of_z, c.ranges.m, c.step_of-dy.ensures, c.step_of-dx.ensures) record {
      w_bound = (f.1, omega (arith, f.1), w.0, step-most (180 - c.args.set.angle) (omega arith), w.1, w.2, omega (arith, f.1, c.requires.in_bounds.3), rw f.2 c.requires.fours.5);
      m_value = (
        c.requires.edge.3,
        (omega (arith, f.1, c.requires.in_bounds.1), λ j h. top j (omega arith)),
        (omega (arith, f.1, f.2, c.requires.in_bounds.2), λ j h. left j (omega (arith, f.2))),
      );
    }

pub returns : goal.returns
returns c =
    c.z2_strips.ensures
    ∙ by-strips c.args.bs c.args.set c.args.corner c.args.m c.args.above.now c.args.left.now _ _ _ _
    c.requires.fours.1 c.requires.fours.2 (simp (to_z-of_z, c.ranges.corner) at c.above_list.ensures) (simp (to_z-of_z, c.ranges.corner) at c.left_list.ensures)
    _ _ _ _ (to_z-of_z c.ranges.m) c.step_of-dx.ensures c.step_of-dy.ensures c.requires.fours.0.2 c.args.out.now
