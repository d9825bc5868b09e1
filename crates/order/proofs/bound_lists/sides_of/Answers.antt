-- `sides_of` meets its contract: the bounds fit 16 bits. Assumes nothing.
use Prim.Native.Nat.{◌+◌}
use native.Mathlib.Omega.{arith}
use mir.Syntax.{w16}
use Rattle.signed.proofs.Bound.{back-pos}
use Rattle.order.proofs.bound_lists.sides_of.Goals as goal

pub returns : goal.returns
returns c =
    let r = c.args.r in
    simp (back-pos w16 r.x (omega arith), back-pos w16 (r.x + r.w) (omega arith), back-pos w16 r.y (omega arith), back-pos w16 (r.y + r.h) (omega arith))
