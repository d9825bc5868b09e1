-- `ramp_line` meets its contract. The invariant: the first c numbers are written, and the numerator is that of column from + c. Assumes nothing.
use Prim.Native.Nat.{ℕ, ◌≤◌, ◌<◌, ◌+◌, ◌-◌, ◌/◌, ◌^◌}
use native.Mathlib.Nat.{add-zero, add_assoc}
use native.Mathlib.Omega.{arith}
use mathlib.Core.Path.{◌≡◌, refl, sym, ◌∙◌}
use lib.ListN.{length-set}
use Rattle.lists.proofs.Fill.{filled_none, filled_more, filled-all}
use Rattle.smooth_steps.proofs.Steps.{parts-most}
use Rattle.smooth_lines.proofs.Running.{run, run-most, run-next, run_is}
use Rattle.smooth_lines.proofs.across.ramp_line.Goals as goal

-- the numerator before the first column
first : (c : goal.Start) → run c.args.l c.args.e c.args.m c.args.from ≤ 600000
first c = run-most c.requires.0 c.requires.1 c.args.from (omega arith)

pub overflow_cast-passed : goal.overflow_cast-passed
overflow_cast-passed c = omega (arith, parts-most c.requires.0)

pub overflow_sub-number : goal.overflow_sub-number
overflow_sub-number c = omega arith

pub overflow_mul-number : goal.overflow_mul-number
unfolding run
overflow_mul-number c = omega (arith, first c)

pub overflow_mul-number-2 : goal.overflow_mul-number-2
unfolding run
overflow_mul-number-2 c = omega (arith, first c)

pub overflow_add-number : goal.overflow_add-number
unfolding run
overflow_add-number c = omega (arith, first c)

pub overflow_add-number-2 : goal.overflow_add-number-2
unfolding run
overflow_add-number-2 c = omega (arith, first c)

pub loop-c-init : goal.loop-c-init
unfolding run
loop-c-init c = (omega arith, refl, sym (filled_none _ _), rw (add-zero))

-- one turn
module _ (c : goal.In-loop-c) where
  abbrev column : ℕ
  column = c.args.from + c.loop-c.c

  within : column < c.args.m
  within = omega arith

  next : c.loop-c.number + c.args.e ≡ run c.args.l c.args.e c.args.m (column + 1) + c.args.l
  next = omega (arith, run-next c.args.l c.args.e c.args.m column within)

pub overflow_add-number-in-loop-c : goal.overflow_add-number-in-loop-c
overflow_add-number-in-loop-c c = omega (arith, run-most c.requires.0 c.requires.1 (column c) (omega arith))

pub overflow_sub-number-in-loop-c : goal.overflow_sub-number-in-loop-c
overflow_sub-number-in-loop-c c = omega (arith, next c)

pub overflow_shr-line : goal.overflow_shr-line
overflow_shr-line c = omega arith

pub offset_bounds-line-c : goal.offset_bounds-line-c
offset_bounds-line-c c = omega arith

pub bounds-line-c : goal.bounds-line-c
bounds-line-c c = omega arith

pub overflow_add-c : goal.overflow_add-c
overflow_add-c c = omega arith

pub loop-c-smaller : goal.loop-c-smaller
loop-c-smaller c = omega arith

pub loop-c-preserved : goal.loop-c-preserved
loop-c-preserved c =
    let l = c.loop-c in
    let a = c.args in
    let v = (λ j. (l.invariant.3 j + a.e - a.l) / 2 ^ a.k) ∙ run_is c.requires.0 c.requires.1 (column c) (within c) in (
      omega arith,
      simp length-set l.invariant.1,
      filled_more l.c _ _ _ _ 0 (omega arith) l.invariant.2 v,
      rw (← add_assoc) (omega (arith, next c)),
    )

pub shape_of-line : goal.shape_of-line
shape_of-line c = c.loop-c.invariant.1

pub returns : goal.returns
returns c = c.loop-c.invariant.2 ∙ filled-all c.loop-c.c _ _ (omega arith)
