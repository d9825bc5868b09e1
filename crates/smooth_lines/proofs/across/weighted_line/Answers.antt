-- `weighted_line` meets its contract. The invariant: the first c numbers are written, and the numerator is that of column c. Assumes nothing.
use Prim.Native.Nat.{ℕ, ◌≤◌, ◌<◌, ◌+◌, ◌-◌, ◌*◌, ◌/◌, ◌^◌}
use native.Mathlib.Nat.{sub-zero}
use native.Mathlib.Omega.{arith}
use mathlib.Core.Path.{◌≡◌, refl, sym, ◌∙◌, ap}
use lib.ListN.{get_or, length-set}
use Rattle.lists.proofs.Fill.{filled_none, filled_more, filled-all}
use Rattle.smooth_steps.specs.Parts.{part, Step}
use Rattle.smooth_lines.proofs.Running.{run, run-most, run-next, run_is, here-most}
use Rattle.smooth_lines.proofs.across.weighted_line.Goals as goal

-- the numerator before the first column
first : (l e m : ℕ) → l * m + m / 2 ≡ run l e m 0
unfolding run
first l e m = rw (sub-zero) (omega arith)

pub overflow_mul-number : goal.overflow_mul-number
overflow_mul-number c = omega (arith, first c.args.l c.args.e c.args.m, run-most c.requires.step.0 c.requires.step.1 0 (omega arith))

pub overflow_add-number : goal.overflow_add-number
overflow_add-number c = omega (arith, first c.args.l c.args.e c.args.m, run-most c.requires.step.0 c.requires.step.1 0 (omega arith))

pub loop-c-init : goal.loop-c-init
loop-c-init c = (omega arith, refl, sym (filled_none _ _), first c.args.l c.args.e c.args.m)

-- one turn
next : (l e m c n : ℕ) → c < m → n ≡ run l e m c → n + e ≡ run l e m (c + 1) + l
next l e m c n h is = omega (arith, run-next l e m c h)

ramp-is : {l e m k : ℕ} → Step e 0 m k → l ≤ 4095 → (c n : ℕ) → c < m → n ≡ run l e m c → (n + e - l) / 2 ^ k ≡ part m e l (m - 1 - c)
ramp-is {l} {e} {m} {k} s h c n inside is = ap (λ x. (x + e - l) / 2 ^ k) is ∙ run_is s h c inside

pub overflow_add-number-in-loop-c : goal.overflow_add-number-in-loop-c
overflow_add-number-in-loop-c c = omega (arith, run-most c.requires.step.0 c.requires.step.1 c.loop-c.c (omega arith))

pub overflow_sub-number : goal.overflow_sub-number
overflow_sub-number c = omega (arith, next c.args.l c.args.e c.args.m c.loop-c.c c.loop-c.number (omega arith) c.loop-c.invariant.3)

pub weigh-requires : goal.weigh-requires
weigh-requires c =
    let p = c.requires in
    let l = c.loop-c in
    let within : l.c < c.args.m = omega arith in
    (omega (arith, ramp-is p.step.0 p.step.1 l.c l.number within l.invariant.3, here-most p.step.0 p.step.1 l.c within), p.step.1, p.line_in_bounds.1 l.c (omega arith))

pub loop-c-preserved : goal.loop-c-preserved
loop-c-preserved c =
    let p = c.requires in
    let l = c.loop-c in
    let a = c.args in
    let within : l.c < a.m = omega arith in
    let v = c.weigh.ensures ∙ ap (λ x. part 64 x a.l (get_or a.weights.now l.c 0)) (ramp-is p.step.0 p.step.1 l.c l.number within l.invariant.3) in (
      omega arith,
      simp length-set l.invariant.1,
      filled_more l.c _ _ _ _ 0 (omega arith) l.invariant.2 v,
      omega (arith, next a.l a.e a.m l.c l.number within l.invariant.3),
    )

pub returns : goal.returns
returns c = c.loop-c.invariant.2 ∙ filled-all c.loop-c.c _ _ (omega arith)
