-- `read_row` meets its contract. The invariant: the first i entries are read. Assumes nothing.
use Prim.Native.Nat.{◌*◌, ◌≤◌, ◌-◌}
use mathlib.Core.Path.{◌≡◌}
use lib.IntN.{pos, nat_abs}
use lib.Ieee.{nan}
use lib.ListN.{length, get_or}
use Rattle.lists.specs.Fill.{filled}
use Rattle.samples.specs.Sample.{reading}
use Rattle.plane_windows.proofs.read.read_row.Given as goal

abbrev pub invariant-loop-i : goal.invariant-loop-i
invariant-loop-i l =
    (l.i ≤ length l.initial.part) × (length l.part ≡ length l.initial.part) × (l.part ≡ filled l.i (λ k. pos (nat_abs l.times * reading (get_or l.row k nan))) l.initial.part)

abbrev pub decreases-loop-i : goal.decreases-loop-i
decreases-loop-i l = length l.initial.part - l.i
