-- Edges that were built are what every block function is given (direct_calls/specs/Given). Assumes nothing.
use mathlib.Core.Path.{◌≡◌}
use mathlib.Core.Bool.{true}
use mathlib.Core.List.{List}
use Prim.Native.Nat.{ℕ, ◌*◌, ◌≤◌}
use native.Mathlib.Omega.{arith}
use lib.IntN.{pos}
use lib.Ieee.{Float}
use lib.ListN.{length, get_or}
use Rattle.numbers.specs.Depth.{most}
use Rattle.lists.proofs.Fill.{length-filled}
use Rattle.direct_calls.specs.Given.{Given}
use Rattle.edge_line.specs.Edge.{entry_of}
use Rattle.block_spec.specs.declared.spec.IntraRefSpec.{IntraRefSpec}
use Rattle.block_spec.specs.Behind.{above_behind, left_behind}
use Rattle.sides.specs.Read.{all_read}
use Rattle.sides.specs.Values.{value_of}
use Rattle.edges.specs.Refs.{Lists, refs_of}
use Rattle.block_spec.specs.Placed.{Placed}
use Rattle.edges.proofs.Inside.{built-in-range}

pub built-given : {W : ℕ} {s : IntraRefSpec} (plane : List Float) (before : Lists) (n : ℕ) → Placed (length plane) W s → all_read plane W s ≡ true
    → 128 ≤ length before.above → 128 ≤ length before.left → s.b * s.b ≤ n
    → Given s.b (most s.d) (refs_of plane W s before).above (refs_of plane W s before).left (get_or (refs_of plane W s before).corner 0 (pos 0)) n
built-given {W} {s} plane before n p e ha hl h =
    let r = built-in-range plane before p e in
    record {
      size = p.stands.is-size;
      above-long = omega (arith, length-filled 128 (entry_of s.b (λ c. value_of W plane (above_behind s c))) before.above ha, p.stands.side);
      left-long = omega (arith, length-filled 128 (entry_of s.b (λ c. value_of W plane (left_behind s c))) before.left hl, p.stands.side);
      out-long = h;
      above_in = r.above;
      left_in = r.left;
      corner-in = r.corner;
    }
