-- `read_patch` meets its contract. The invariant: the first j rows are read, o is the place of row j in the plane, and k in the list. Assumes nothing.
use Prim.Native.Nat.{◌-◌}
use mathlib.Core.Path.{◌≡◌}
use lib.IntN.{nat_abs}
use Rattle.plane_windows.specs.Into.{read_at, Into}
use Prim.Native.Nat.{◌+◌, ◌-◌, ◌*◌, ◌≤◌}
use mathlib.Core.Path.{◌≡◌}
use lib.IntN.{nat_abs}
use lib.ListN.{length}
use Rattle.colour_terms.specs.Terms.{stride}
use Prim.Native.Nat.{◌+◌, ◌-◌, ◌*◌}
use mathlib.Core.Path.{◌≡◌}
use Rattle.plane_windows.proofs.read.read_patch.Given as goal

abbrev pub invariant-loop-j : goal.invariant-loop-j
invariant-loop-j l =
    (l.j ≤ l.h) × (l.o ≡ (l.y + l.top + l.j) * l.width + (l.x + l.left)) × (l.k ≡ (l.top + l.j) * stride + l.left) × (length l.window ≡ length l.initial.window)
    × Into (read_at (nat_abs l.times) l.width l.x l.y l.plane) l.left l.top l.w l.j l.initial.window l.window

abbrev pub decreases-loop-j : goal.decreases-loop-j
decreases-loop-j l = l.h - l.j
