-- `mean_row` meets its contract. The invariant: the first c samples are written. Assumes nothing.
use Prim.Native.Nat.{◌<◌}
use native.Mathlib.Omega.{arith}
use mathlib.Core.Path.{refl, sym, ◌∙◌, ap}
use lib.ListN.{length, get_or, length-set}
use lib.IntN.{pos}
use lib.Ieee.{nan}
use Rattle.lists.specs.Block.{sample}
use Rattle.lists.proofs.Fill.{filled_none, filled_more, filled-all}
use Rattle.smooth_steps.specs.Parts.{weighed, mean}
use Rattle.smooth_steps.proofs.Steps.{rest-most, both_most, entry_in, entry-abs, entry-most}
use Rattle.smooth_lines.proofs.down.mean_row.Goals as goal

pub overflow_sub-rest : goal.overflow_sub-rest
overflow_sub-rest c = omega arith

pub overflow_mul-rest : goal.overflow_mul-rest
overflow_mul-rest c = omega (arith, rest-most c.requires.entries.1)

pub overflow_add-rest : goal.overflow_add-rest
overflow_add-rest c = omega (arith, rest-most c.requires.entries.1)

pub loop-c-init : goal.loop-c-init
loop-c-init c = (omega arith, refl, sym (filled_none _ _))

pub offset_bounds-above-c : goal.offset_bounds-above-c
offset_bounds-above-c c = omega arith

pub bounds-above-c : goal.bounds-above-c
bounds-above-c c = omega arith

-- one turn
pub smooth_to-down-requires : goal.smooth_to-down-requires
smooth_to-down-requires c =
    let p = c.requires.entries in
    (entry_in p.0 c.loop-c.c (omega arith), p.1, refl, p.2)

pub offset_bounds-line-c : goal.offset_bounds-line-c
offset_bounds-line-c c = omega arith

pub bounds-line-c : goal.bounds-line-c
bounds-line-c c = omega arith

pub mean_of-requires : goal.mean_of-requires
mean_of-requires c =
    let i = c.loop-c.c in
    let here : i < length c.args.row.now = omega arith in
    let number = c.smooth_to-down.ensures ∙ ap (λ t. weighed c.args.m c.args.e t c.args.w c.args.v) (entry-abs c.requires.entries.0 i here) in
    let most = both_most c.requires.entries.1 (entry-most c.requires.entries.0 i here) c.args.v c.requires.entries.2 in
    (omega (arith, number, most), c.requires.row_in_bounds.1 i here)

pub to_sample-requires : goal.to_sample-requires
to_sample-requires c =
    let i = c.loop-c.c in
    let here : i < length c.args.row.now = omega arith in
    let number = c.smooth_to-down.ensures ∙ ap (λ t. weighed c.args.m c.args.e t c.args.w c.args.v) (entry-abs c.requires.entries.0 i here) in
    let most = both_most c.requires.entries.1 (entry-most c.requires.entries.0 i here) c.args.v c.requires.entries.2 in
    omega (arith, c.mean_of.ensures, number, most, c.requires.row_in_bounds.1 i here)

pub loop-c-preserved : goal.loop-c-preserved
loop-c-preserved c =
    let k = c.loop-c in
    let i = c.loop-c.c in
    let here : i < length c.args.row.now = omega arith in
    let number = c.smooth_to-down.ensures ∙ ap (λ t. weighed c.args.m c.args.e t c.args.w c.args.v) (entry-abs c.requires.entries.0 i here) in
    let v = c.to_sample.ensures ∙ ap (λ x. sample (pos x)) c.mean_of.ensures ∙ ap (λ x. sample (pos (mean x (get_or c.args.line.now k.c 0)))) number in
    (omega arith, simp length-set k.invariant.1, filled_more k.c _ _ _ _ nan (omega arith) k.invariant.2 v)

pub returns : goal.returns
returns c = c.loop-c.invariant.2 ∙ filled-all c.loop-c.c _ _ (omega arith)
