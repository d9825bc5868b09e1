-- `kept_with` meets its contract. Assumes nothing.
use native.Mathlib.Omega.{arith}
use mathlib.Core.Path.{sym, ◌∙◌, ap}
use lib.IntN.{pos}
use lib.ListN.{length, length-replicate}
use Rattle.order.proofs.Lists.{length-noted}
use Rattle.order.proofs.Walk.{entry-below, in-walk-none, in-walk-found, in-walk-more, in-walk-all}
use Rattle.order.proofs.kept.kept_with.Goals as goal

pub loop-k-init : goal.loop-k-init
loop-k-init c = (
  omega arith,
  ap length c.requires.1 ∙ length-replicate 4096 (pos 0),
  ap length c.requires.2 ∙ length-replicate 4096 (pos 0),
  rw (c.requires.1, c.requires.2) (in-walk-none _ _ _ _ _ c.requires.0),
)

pub offset_bounds-order-k : goal.offset_bounds-order-k
offset_bounds-order-k c = omega arith

pub bounds-order-k : goal.bounds-order-k
bounds-order-k c = omega arith

pub overflow_cast-i : goal.overflow_cast-i
overflow_cast-i c = omega (arith, c.shared_slice_known-in-loop-k-1.given c.loop-k.k)

pub pass-requires : goal.pass-requires
pass-requires c =
    let w = c.requires.0 in
    let e = entry-below _ _ c.args.n _ _ w c.loop-k.k c.loop-k-test.true in (
      w.wide,
      w.high,
      record {
        row = omega (arith, w.whole, e);
        rows = omega (arith, w.whole, c.loop-k.invariant.3.within);
        few = omega (arith, w.whole, w.few);
        blocks-long = c.loop-k.invariant.1;
        hulls-long = c.loop-k.invariant.2;
      },
    )

pub shape_of-blocks-then-pass : goal.shape_of-blocks-then-pass
shape_of-blocks-then-pass c =
    c.blocks-1.given ∙ c.loop-k.invariant.1 ∙ sym (ap length c.requires.1 ∙ length-replicate 4096 (pos 0))

pub shape_of-hulls-then-pass : goal.shape_of-hulls-then-pass
shape_of-hulls-then-pass c =
    c.hulls-1.given ∙ c.loop-k.invariant.2 ∙ sym (ap length c.requires.2 ∙ length-replicate 4096 (pos 0))

pub returns-then-pass : goal.returns-then-pass
returns-then-pass c =
    in-walk-found _ _ _ _ _ c.requires.0 c.loop-k.k c.loop-k.top c.loop-k.blocks c.loop-k.hulls c.loop-k.invariant.3
    c.loop-k-test.true _ c.pass.ensures.searched c.if-pass.true

pub overflow_add-i : goal.overflow_add-i
overflow_add-i c = omega (arith, c.shared_slice_known-in-loop-k-1.given c.loop-k.k)

pub max-top-requires : goal.max-top-requires
max-top-requires c = tt

pub overflow_add-k : goal.overflow_add-k
overflow_add-k c = omega arith

pub loop-k-smaller : goal.loop-k-smaller
loop-k-smaller c = omega arith

pub loop-k-preserved : goal.loop-k-preserved
loop-k-preserved c =
    let w = c.requires.0 in
    let h = c.loop-k-test.true in
    let p = c.pass.ensures in
    let e = c.if-pass.false in
    let m = c.max-top.ensures in (
      omega arith,
      ap length (p.blocks-are e) ∙ length-noted _ _ _ ∙ c.loop-k.invariant.1,
      ap length (p.hulls-are e) ∙ length-noted _ _ _ ∙ c.loop-k.invariant.2,
      rw (p.blocks-are e, p.hulls-are e)
          (in-walk-more _ _ _ _ _ w c.loop-k.k c.loop-k.top c.loop-k.blocks c.loop-k.hulls c.loop-k.invariant.3 h _ p.searched e
          c.max-top.result (omega (arith, m)) (omega (arith, m))
          (omega (arith, m, c.loop-k.invariant.3.within, entry-below _ _ c.args.n _ _ w c.loop-k.k h))
          c.loop-k.invariant.1 c.loop-k.invariant.2),
    )

pub shape_of-blocks : goal.shape_of-blocks
shape_of-blocks c = c.loop-k.invariant.1 ∙ sym (ap length c.requires.1 ∙ length-replicate 4096 (pos 0))

pub shape_of-hulls : goal.shape_of-hulls
shape_of-hulls c = c.loop-k.invariant.2 ∙ sym (ap length c.requires.2 ∙ length-replicate 4096 (pos 0))

pub returns : goal.returns
returns c =
    in-walk-all _ _ _ _ _ c.requires.0 c.loop-k.k c.loop-k.top c.loop-k.blocks c.loop-k.hulls c.loop-k.invariant.3 (omega arith)
