-- `z3_with` meets its contract: the list holds the edge that the definition reads, as far as the last column goes. Assumes nothing.
use Prim.Native.Nat.{ℕ, ◌+◌, ◌-◌, ◌≤◌, ◌<◌}
use native.Mathlib.Omega.{arith}
use mathlib.Core.Bool.{true}
use mathlib.Core.List.{List}
use mathlib.Core.Path.{◌≡◌, ◌∙◌}
use lib.IntN.{ℤ, pos, nat_abs}
use mir.Facts.{to_z-of_z}
use Rattle.signed.specs.Range.{inside, Edge}
use Rattle.setting.specs.Setting.{strength_left, limit_left}
use Rattle.setting.specs.declared.Setting.{Setting}
use Rattle.setting.proofs.Most.{left-most}
use Rattle.zone_rows.specs.Listed.{Fours}
use Rattle.angled.proofs.OneEdge.{OneEdge, samples, corner-in, step-few, reach, holds-samples, by-strips}
use Rattle.angled.proofs.zone3.z3_with.Goals as goal

given : (B : ℕ) (s : Setting) (m k : ℤ) (es : List ℤ) → Fours B → 180 < s.angle → s.angle ≤ 234 → Edge (nat_abs m) (B + B) es → inside (pos (nat_abs m)) k ≡ true → inside (pos 4095) m ≡ true
    → OneEdge B (270 - s.angle) (strength_left s (B + B)) (limit_left s (B + B) B) m k es
given B s m k es f l h e i d = record { fours = f; low = omega arith; high = omega arith; gentle = left-most _ _; entries = e; corner = i; depth = d }

pub left_list-requires-clause-edge : goal.left_list-requires-clause-edge
left_list-requires-clause-edge c =
    let g = given c.args.bs c.args.set c.args.m c.args.corner c.args.left.now c.requires.fours.0 c.requires.fours.1 c.requires.fours.2 c.requires.in_bounds.3 c.requires.in_bounds.4 c.requires.in_bounds.5 in
    simp (to_z-of_z, c.ranges.corner) (samples g, corner-in g)

pub z3_strips-requires : goal.z3_strips-requires
z3_strips-requires c =
    let g = given c.args.bs c.args.set c.args.m c.args.corner c.args.left.now c.requires.fours.0 c.requires.fours.1 c.requires.fours.2 c.requires.in_bounds.3 c.requires.in_bounds.4 c.requires.in_bounds.5 in
    let i = holds-samples g _ _ (simp (to_z-of_z, c.ranges.corner) at c.left_list.ensures) in
    simp (to_z-of_z, c.ranges.m, c.step_of-step.ensures) record { w_bound = (c.requires.fours.0.1, omega (arith, c.requires.fours.0.1), omega (arith, step-few g), omega (arith, c.requires.fours.0.1, c.requires.in_bounds.2), rw c.requires.fours.0.2 c.requires.fours.4, c.requires.in_bounds.5); holds = (omega (arith, reach g, c.requires.fours.0.1, c.requires.fours.0.2, c.requires.in_bounds.1), λ j h. i j (omega (arith, reach g, c.requires.fours.0.2))) }

pub returns : goal.returns
returns c =
    let g = given c.args.bs c.args.set c.args.m c.args.corner c.args.left.now c.requires.fours.0 c.requires.fours.1 c.requires.fours.2 c.requires.in_bounds.3 c.requires.in_bounds.4 c.requires.in_bounds.5 in
    c.z3_strips.ensures
    ∙ by-strips g _ _ (simp (to_z-of_z, c.ranges.corner) at c.left_list.ensures) c.args.set.flags.luma _ _ c.args.out.now (to_z-of_z c.ranges.m) c.step_of-step.ensures _ c.requires.fours.0.2
