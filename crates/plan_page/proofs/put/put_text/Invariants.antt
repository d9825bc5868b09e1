-- `put_text` meets its contract. The invariant: the first i bytes of the text are put. Assumes nothing.
use mathlib.Core.Path.{◌≡◌}
use Prim.Native.Nat.{◌≤◌, ◌-◌, ◌+◌}
use lib.ListN.{length, take}
use Rattle.plan_page.specs.Put.{Put}
use Rattle.plan_page.proofs.put.put_text.Given as goal

abbrev pub invariant-loop-i : goal.invariant-loop-i
invariant-loop-i l = (l.i ≤ length l.text) × (length l.out ≡ length l.initial.out) × Put (take l.i l.text) l.at l.initial.out (l.at + l.i) l.out

abbrev pub decreases-loop-i : goal.decreases-loop-i
decreases-loop-i l = length l.text - l.i
