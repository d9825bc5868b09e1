-- A row that does not fail 1 to 7 lies in the plane, so its bounds fit 15 bits; and rows as parts of the plan. Assumes nothing.
use mathlib.Core.Path.{◌≡◌, ap}
use mathlib.Core.List.{List}
use Prim.Native.Nat.{ℕ, ◌+◌, ◌-◌, ◌*◌, ◌≤◌}
use native.Mathlib.Omega.{arith}
use lib.ListN.{length, take, drop, length-take, length-drop}
use Rattle.block_spec.specs.declared.spec.IntraRefSpec.{IntraRefSpec}
use Rattle.block_spec.specs.Placed.{Standing}
use Rattle.job.specs.Row.{row_at}
use Rattle.clash.specs.Rects.{Near, HullFits}
use Rattle.clash.proofs.Around.{hull-columns, hull-rows}

module _ (W H : ℕ) (s : IntraRefSpec) (g : Standing W H s) where
  pub near_of : Near s
  near_of = record { above = λ e. (g.above e).0; left = λ e. (g.left e).0 }

  pub placed_of : W ≤ 4096 → H ≤ 4096 → HullFits s
  placed_of w h = record { near = near_of; across = omega (arith, hull-columns W H s g); down = omega (arith, hull-rows W H s g) }

-- row i, as the code cuts it out
module _ (plan : List ℕ) (i : ℕ) where
  pub row_is : take (16 * i + 16 - 16 * i) (drop (16 * i) plan) ≡ row_at plan i
  row_is = let e : 16 * i + 16 - 16 * i ≡ 16 = omega arith in ap (λ n. take n (drop (16 * i) plan)) e

  pub row-long : 16 * i + 16 ≤ length plan → length (take (16 * i + 16 - 16 * i) (drop (16 * i) plan)) ≡ 16
  row-long h = simp (length-take, length-drop) (omega arith)
