-- `put_text` meets its contract. The invariant: the first i bytes of the text are put. Assumes nothing.
use mathlib.Core.Path.{refl}
use native.Mathlib.Omega.{arith}
use lib.ListN.{length-set}
use lib.Seq.{take_all}
use Rattle.plan_page.proofs.Texts.{put-none, put-more, put_as}
use Rattle.plan_page.proofs.put.put_text.Goals as goal

pub loop-i-init : goal.loop-i-init
loop-i-init c = (omega arith, refl, put_as refl (omega arith) (put-none _ _))

pub bounds-text-i : goal.bounds-text-i
bounds-text-i c = omega arith

pub overflow_add-out : goal.overflow_add-out
overflow_add-out c = omega arith

pub bounds-out-at : goal.bounds-out-at
bounds-out-at c = omega arith

pub overflow_add-i : goal.overflow_add-i
overflow_add-i c = omega arith

pub loop-i-smaller : goal.loop-i-smaller
loop-i-smaller c = omega arith

pub loop-i-preserved : goal.loop-i-preserved
loop-i-preserved c =
    let l = c.loop-i in
    let s = c.before.before.before in (
      omega arith,
      simp length-set l.invariant.1,
      put-more s.args.text.now l.i s.args.at s.args.out.now l.out (omega arith) (omega arith) l.invariant.2,
    )

pub overflow_add-result : goal.overflow_add-result
overflow_add-result c = omega arith

pub shape_of-out : goal.shape_of-out
shape_of-out c = c.loop-i.invariant.1

pub returns : goal.returns
returns c = let s = c.before.before in put_as (take_all c.loop-i.i s.args.text.now (omega arith)) refl c.loop-i.invariant.2
