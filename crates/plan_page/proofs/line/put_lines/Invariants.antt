-- `put_lines` meets its contract. The invariant: the lines of the first i rows are put. Assumes nothing.
use mathlib.Core.Path.{◌≡◌}
use Prim.Native.Nat.{◌≤◌, ◌-◌, ◌*◌}
use lib.ListN.{length}
use Rattle.plan_page.specs.Page.{lines_to}
use Rattle.plan_page.specs.Put.{Put}
use Rattle.plan_page.proofs.line.put_lines.Given as goal

abbrev pub invariant-loop-i : goal.invariant-loop-i
invariant-loop-i l =
    (l.i ≤ l.n) × (l.start ≡ l.i * l.words) × (length l.out ≡ length l.initial.out) × Put (lines_to l.words l.plan l.i) 0 l.initial.out l.end l.out

abbrev pub decreases-loop-i : goal.decreases-loop-i
decreases-loop-i l = l.n - l.i
