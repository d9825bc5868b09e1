-- `fill` meets its contract. The invariant: the first z entries of each half are there. Assumes nothing.
use Prim.Native.Nat.{◌≤◌}
use Rattle.product_table.specs.Wide.{WideTo}
use Rattle.product_table.proofs.fill.Given as goal

abbrev pub invariant-loop-z : goal.invariant-loop-z
invariant-loop-z l = (l.z ≤ 12) × WideTo l.z l.a l.table
