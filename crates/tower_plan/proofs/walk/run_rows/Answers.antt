-- `run_rows` meets its contract. Assumes nothing.
use borrow.Author.Rules.{rules}
use Prim.Native.Nat.{ℕ, ◌+◌, ◌-◌, ◌*◌}
use native.Mathlib.Omega.{arith}
use mathlib.Core.Path.{◌≡◌, refl, sym, ◌∙◌, ap, subst}
use mathlib.Core.List.{List}
use lib.Ieee.{Float}
use lib.ListN.{length, get_or, take, drop, length-set}
use Rattle.lists.proofs.Block.{part_length}
use Rattle.block_spec.specs.Rules.{is_plane}
use Rattle.block_spec.proofs.Placed.{plane-is}
use Rattle.planes.specs.Three.{Sized}
use Rattle.tower_job.specs.Row.{tower_row}
use Rattle.tower_work.specs.Granted.{three, ArePlanes}
use Rattle.tower_work.proofs.Frame.{tower-fits}
use Rattle.tower_plan.proofs.Steps.{none_done, one_more}
use Rattle.tower_plan.proofs.walk.run_rows.Goals as goal

-- planes of one size, before and after
module _ (W H : ℕ) (p0 p1 p2 : List Float) (planes : ArePlanes W H p0 p1 p2) where
  sized : Sized (W * H) (three p0 p1 p2)
  sized = record {
    l0 = (plane-is W H (length p0) planes.first).2;
    l1 = (plane-is W H (length p1) planes.second).2;
    l2 = (plane-is W H (length p2) planes.third).2;
  }

  still-planes : (q0 q1 q2 : List Float) → Sized (W * H) (three q0 q1 q2) → ArePlanes W H q0 q1 q2
  still-planes q0 q1 q2 s = record {
    first = ap (is_plane W H) (s.l0 ∙ sym sized.l0) ∙ planes.first;
    second = ap (is_plane W H) (s.l1 ∙ sym sized.l1) ∙ planes.second;
    third = ap (is_plane W H) (s.l2 ∙ sym sized.l2) ∙ planes.third;
  }

-- where row i lies
row_is : (plan : List ℕ) (i : ℕ) → take (32 * i + 32 - 32 * i) (drop (32 * i) plan) ≡ tower_row plan i
row_is plan i = let e : 32 * i + 32 - 32 * i ≡ 32 = omega arith in ap (λ n. take n (drop (32 * i) plan)) e

pub loop-entry-init : goal.loop-entry-init
loop-entry-init c = (
  sized _ _ _ _ _ c.requires.tower_rows.are-planes,
  refl,
  none_done c.args.width c.args.height c.args.differences.now c.args.plan.now c.args.order.now _,
  c.requires.luma_len.0,
  c.requires.luma_len.1,
  c.requires.luma_len.2,
  c.requires.luma_len.3,
)

pub do_job-answer-requires : goal.do_job-answer-requires
do_job-answer-requires c =
    let v = c.loop-entry.invariant in
    let i = get_or c.args.order.now c.loop-entry.entry-index 0 in
    let here = c.requires.tower_rows.below c.loop-entry.entry-index c.loop-entry-test.true in record {
      are_planes = (still-planes _ _ _ _ _ c.requires.tower_rows.are-planes _ _ _ v.0, part_length (32 * i) 32 c.args.plan.now here.0);
      luma_len = (v.3, v.4, v.5, v.6);
    }

pub loop-entry-preserved : goal.loop-entry-preserved
loop-entry-preserved c =
    let d = c.do_job-answer.ensures in
    let v = c.loop-entry.invariant in (
      subst (Sized _) (sym d.holds) (tower-fits c.args.width c.args.height c.args.differences.now _ _ v.0),
      simp length-set v.1,
      one_more c.args.width c.args.height c.args.differences.now c.args.plan.now c.args.order.now _ _ _ c.loop-entry.answers c.loop-entry.entry-index _ _ _
          c.loop-entry-test.true v.2 (row_is c.args.plan.now (get_or c.args.order.now c.loop-entry.entry-index 0)) d c.number.ensures,
      search rules,
      search rules,
      search rules,
      search rules,
    )
