-- `smooth_row` meets its contract. The invariant: the first c samples are written. Assumes nothing.
use Prim.Native.Nat.{ℕ, ◌≤◌}
use native.Mathlib.Omega.{arith}
use mathlib.Core.Path.{◌≡◌, refl, sym, ◌∙◌}
use lib.ListN.{length-set}
use lib.IntN.{pos, nat_abs}
use lib.Ieee.{nan}
use Rattle.lists.specs.Block.{sample}
use Rattle.lists.proofs.Fill.{filled_none, filled_more, filled-all}
use Rattle.smooth_steps.specs.Parts.{edge_at, weighed}
use Rattle.smooth_steps.proofs.Steps.{rest-most, both_most, entry_in, entry-abs, entry-most}
use Rattle.smooth_lines.proofs.down.smooth_row.Goals as goal

pub overflow_sub-rest : goal.overflow_sub-rest
overflow_sub-rest c = omega arith

pub overflow_mul-rest : goal.overflow_mul-rest
overflow_mul-rest c = omega (arith, rest-most c.requires.1)

pub overflow_add-rest : goal.overflow_add-rest
overflow_add-rest c = omega (arith, rest-most c.requires.1)

pub loop-c-init : goal.loop-c-init
loop-c-init c = (omega arith, refl, sym (filled_none _ _))

pub offset_bounds-above-c : goal.offset_bounds-above-c
offset_bounds-above-c c = omega arith

pub bounds-above-c : goal.bounds-above-c
bounds-above-c c = omega arith

-- one turn
module _ (c : goal.In-loop-c) where
  abbrev i : ℕ
  i = c.loop-c.c

  abbrev t : ℕ
  t = nat_abs (edge_at c.args.above.now i)

pub smooth_to-requires : goal.smooth_to-requires
smooth_to-requires c =
    let p = c.requires in
    (entry_in p.0 (i c.before) (omega arith), p.1, refl, p.2)

module _ (c : goal.After-smooth_to) where
  abbrev l : goal.In-loop-c
  l = c.before.before

  number : c.smooth_to.result ≡ weighed l.args.m l.args.e (t l) l.args.w l.args.v
  number = c.smooth_to.ensures ∙ (λ j. weighed l.args.m l.args.e (entry-abs l.requires.0 (i l) (omega arith) j) l.args.w l.args.v)

  number-most : c.smooth_to.result ≤ 4095
  number-most = omega (arith, number, both_most l.requires.1 (entry-most l.requires.0 (i l) (omega arith)) l.args.v l.requires.2)

pub to_sample-requires : goal.to_sample-requires
to_sample-requires c = number-most c

pub offset_bounds-row-c : goal.offset_bounds-row-c
offset_bounds-row-c c = omega arith

pub bounds-row-c : goal.bounds-row-c
bounds-row-c c = omega arith

pub overflow_add-c : goal.overflow_add-c
overflow_add-c c = omega arith

pub loop-c-smaller : goal.loop-c-smaller
loop-c-smaller c = omega arith

pub loop-c-preserved : goal.loop-c-preserved
loop-c-preserved c =
    let n = c.before in
    let k = (l n).loop-c in
    let v = c.to_sample.ensures ∙ (λ j. sample (pos (number n j))) in
    (omega arith, simp length-set k.invariant.1, filled_more k.c _ _ _ _ nan (omega arith) k.invariant.2 v)

pub shape_of-row : goal.shape_of-row
shape_of-row c = c.loop-c.invariant.1

pub returns : goal.returns
returns c = c.loop-c.invariant.2 ∙ filled-all c.loop-c.c _ _ (omega arith)
