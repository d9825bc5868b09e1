-- `z1_with` meets its contract: the list holds the edge that the definition reads, as far as the last row goes. Assumes nothing.
use Prim.Native.Nat.{ℕ, ◌+◌, ◌≤◌, ◌<◌}
use native.Mathlib.Omega.{arith}
use mathlib.Core.Bool.{true}
use mathlib.Core.List.{List}
use mathlib.Core.Path.{◌≡◌, ◌∙◌}
use lib.IntN.{ℤ, pos, nat_abs}
use mir.Facts.{to_z-of_z}
use Rattle.signed.specs.Range.{inside, Edge}
use Rattle.setting.specs.Setting.{strength_above, limit_above}
use Rattle.setting.specs.declared.Setting.{Setting}
use Rattle.setting.proofs.Most.{above_most}
use Rattle.zone_rows.specs.Listed.{Fours}
use Rattle.angled.proofs.OneEdge.{OneEdge, samples, corner-in, step-few, reach, holds-samples, by_rows}
use Rattle.angled.proofs.zone1.z1_with.Goals as goal

given : (B : ℕ) (s : Setting) (m k : ℤ) (es : List ℤ) → Fours B → 36 ≤ s.angle → s.angle < 90 → Edge (nat_abs m) (B + B) es → inside (pos (nat_abs m)) k ≡ true → inside (pos 4095) m ≡ true
    → OneEdge B s.angle (strength_above s (B + B)) (limit_above s (B + B) B) m k es
given B s m k es f l h e i d = record { fours = f; low = l; high = h; gentle = above_most _ _; entries = e; corner = i; depth = d }

pub above_list-requires-clause-edge : goal.above_list-requires-clause-edge
above_list-requires-clause-edge c =
    let g = given c.args.bs c.args.set c.args.m c.args.corner c.args.above.now c.requires.fours.0 c.requires.fours.1 c.requires.fours.2 c.requires.in_bounds.2 c.requires.in_bounds.3 c.requires.in_bounds.4 in
    simp (to_z-of_z, c.ranges.corner) (samples g, corner-in g)

pub z1_rows-requires : goal.z1_rows-requires
z1_rows-requires c =
    let g = given c.args.bs c.args.set c.args.m c.args.corner c.args.above.now c.requires.fours.0 c.requires.fours.1 c.requires.fours.2 c.requires.in_bounds.2 c.requires.in_bounds.3 c.requires.in_bounds.4 in
    let i = holds-samples g _ _ (simp (to_z-of_z, c.ranges.corner) at c.above_list.ensures) in
    simp (to_z-of_z, c.ranges.m, c.step_of-step.ensures) record { w_bound = (c.requires.fours.0.1, c.requires.fours.0.1, omega (arith, step-few g), c.requires.fours.4, c.requires.in_bounds.4); holds = (omega (arith, reach g, c.requires.fours.0.1, c.requires.in_bounds.1), λ j h. i j (omega (arith, reach g))) }

pub returns : goal.returns
returns c =
    let g = given c.args.bs c.args.set c.args.m c.args.corner c.args.above.now c.requires.fours.0 c.requires.fours.1 c.requires.fours.2 c.requires.in_bounds.2 c.requires.in_bounds.3 c.requires.in_bounds.4 in
    c.z1_rows.ensures
    ∙ by_rows g _ _ (simp (to_z-of_z, c.ranges.corner) at c.above_list.ensures) c.args.set.flags.luma _ _ c.args.out.now (to_z-of_z c.ranges.m) c.step_of-step.ensures
