-- `put_row` meets its contract: one rectangle after the other. Assumes nothing.
use native.Mathlib.Omega.{arith}
use Rattle.tower_rects.specs.Rows.{rects_of}
use Rattle.tower_order.proofs.Written.{stored-none, stored_more}
use Rattle.tower_order.proofs.store.put_row.Goals as goal

pub returns : goal.returns
returns c =
    let i = c.args.i in
    let Rs = rects_of c.args.r in
    let fits = c.requires.0 in
    let s1 = stored_more _ _ _ i 0 _ Rs (omega arith) fits (omega arith) (stored-none _ i Rs c.requires.1) c.put.ensures in
    let s2 = stored_more _ _ _ i 1 _ Rs (omega arith) fits (omega arith) s1 c.put-2.ensures in
    let s3 = stored_more _ _ _ i 2 _ Rs (omega arith) fits (omega arith) s2 c.put-3.ensures in
    let s4 = stored_more _ _ _ i 3 _ Rs (omega arith) fits (omega arith) s3 c.put-4.ensures in
    let s5 = stored_more _ _ _ i 4 _ Rs (omega arith) fits (omega arith) s4 c.put-5.ensures in
    stored_more _ _ _ i 5 _ Rs (omega arith) fits (omega arith) s5 c.put-6.ensures
