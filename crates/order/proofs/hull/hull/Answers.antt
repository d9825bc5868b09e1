-- `hull` meets its contract. Assumes nothing.
use Prim.Native.Nat.{◌+◌, ◌-◌}
use native.Mathlib.Omega.{arith}
use Rattle.clash.proofs.Around.{one-most, past-most, one-near}
use Rattle.order.proofs.hull.hull.Goals as goal

pub overflow_sub-result : goal.overflow_sub-result
overflow_sub-result c = omega (arith, c.one-left.ensures, one-near _ _ c.requires.left)

pub overflow_sub-result-2 : goal.overflow_sub-result-2
overflow_sub-result-2 c = omega (arith, c.one-above.ensures, one-near _ _ c.requires.above)

pub overflow_add-result : goal.overflow_add-result
overflow_add-result c = omega (arith, c.one-left.ensures, one-most c.args.s.have_left)

pub overflow_add-result-2 : goal.overflow_add-result-2
overflow_add-result-2 c =
    let s = c.args.s in
    omega (arith, c.one-left.ensures, one-most s.have_left, c.past.ensures, past-most s.have_above s.top_right s.b)

pub overflow_add-result-3 : goal.overflow_add-result-3
overflow_add-result-3 c = omega (arith, c.one-above.ensures, one-most c.args.s.have_above)

pub overflow_add-result-4 : goal.overflow_add-result-4
overflow_add-result-4 c =
    let s = c.args.s in
    omega (arith, c.one-above.ensures, one-most s.have_above, c.past-2.ensures, past-most s.have_left s.bottom_left s.b)

pub returns : goal.returns
returns c =
    let s = c.args.s in
    λ j. record {
      x = s.x - c.one-left.ensures j;
      y = s.y - c.one-above.ensures j;
      w = c.one-left.ensures j + s.b + c.past.ensures j;
      h = c.one-above.ensures j + s.b + c.past-2.ensures j;
    }
