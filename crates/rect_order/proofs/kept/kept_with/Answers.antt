-- `kept_with` meets its contract. Assumes nothing.
use native.Mathlib.Omega.{arith}
use mathlib.Core.Path.{sym, ◌∙◌, ap}
use lib.IntN.{pos}
use lib.ListN.{length, length-replicate}
use Rattle.rect_order.proofs.Table.{plain-zeros}
use Rattle.rect_order.proofs.Walk.{entry-below, in-walk-none, in-walk-found, in-walk-more, in-walk-all}
use Rattle.rect_order.proofs.kept.kept_with.Goals as goal

pub loop-k-init : goal.loop-k-init
loop-k-init c =
    let s = c.before in (
      omega arith,
      ap length s.requires.1 ∙ length-replicate 24576 (pos 0),
      rw s.requires.1 (plain-zeros 24576),
      rw s.requires.1 (in-walk-none _ _ s.requires.0),
    )

pub offset_bounds-order-k : goal.offset_bounds-order-k
offset_bounds-order-k c = omega arith

pub bounds-order-k : goal.bounds-order-k
bounds-order-k c = omega arith

pub overflow_cast-i : goal.overflow_cast-i
overflow_cast-i c = omega (arith, c.shared_slice_known-in-loop-k-1.given c.loop-k.k)

pub search-requires : goal.search-requires
search-requires c =
    let l = c.before.before.before in
    let t = l.before.before.requires.0 in
    let e = entry-below _ _ t l.loop-k.k c.loop-k-test.true in
    record {
      parts = l.loop-k.invariant.1;
      plain = l.loop-k.invariant.2;
      row = omega (arith, t.long, e);
      few = omega (arith, t.few, e);
      numbers = t.plain;
      window = omega (arith, t.few, l.loop-k.invariant.3.within);
    }

pub shape_of-columns-then-search : goal.shape_of-columns-then-search
shape_of-columns-then-search c =
    let l = c.before.before.before.before.before in
    l.loop-k.invariant.1 ∙ sym (ap length l.before.before.requires.1 ∙ length-replicate 24576 (pos 0))

pub returns-then-search : goal.returns-then-search
returns-then-search c =
    let l = c.before.before.before.before.before in
    in-walk-found _ _ l.before.before.requires.0 l.loop-k.columns l.loop-k.k l.loop-k.top l.loop-k.invariant.3
    c.loop-k-test.true _ c.search.ensures c.if-search.true

pub enter-requires : goal.enter-requires
enter-requires c =
    let l = c.before.before.before.before.before.before in
    let t = l.before.before.requires.0 in
    let e = entry-below _ _ t l.loop-k.k c.loop-k-test.true in
    (l.loop-k.invariant.1, l.loop-k.invariant.2, omega (arith, t.long, e), omega (arith, t.few, e), t.plain)

pub overflow_add-i : goal.overflow_add-i
overflow_add-i c =
    let i = c.before.before.before.before.before.before in
    omega (arith, i.shared_slice_known-in-loop-k-1.given i.loop-k.k)

pub max-top-requires : goal.max-top-requires
max-top-requires c = tt

pub overflow_add-k : goal.overflow_add-k
overflow_add-k c = omega arith

pub loop-k-smaller : goal.loop-k-smaller
loop-k-smaller c = omega arith

pub loop-k-preserved : goal.loop-k-preserved
loop-k-preserved c =
    let l = c.before.before.before.before.before.before.before.before.before in
    let n = c.enter in
    let h = c.loop-k-test.true in
    let t = l.before.before.requires.0 in
    let m = c.max-top.ensures in (
      omega arith,
      c.columns-1.given ∙ l.loop-k.invariant.1,
      n.ensures.plain,
      in-walk-more _ _ t l.loop-k.columns l.loop-k.k l.loop-k.top l.loop-k.invariant.3 h _
          c.search.ensures c.if-search.false
          c.max-top.result (omega (arith, m)) (omega (arith, m)) (omega (arith, m, l.loop-k.invariant.3.within, entry-below _ _ t l.loop-k.k h))
          n.new.columns n.ensures,
    )

pub shape_of-columns : goal.shape_of-columns
shape_of-columns c = let l = c.before in l.loop-k.invariant.1 ∙ sym (ap length l.requires.1 ∙ length-replicate 24576 (pos 0))

pub returns : goal.returns
returns c =
    let l = c.before in
    in-walk-all _ _ l.requires.0 l.loop-k.columns l.loop-k.k l.loop-k.top l.loop-k.invariant.3 (omega arith)
