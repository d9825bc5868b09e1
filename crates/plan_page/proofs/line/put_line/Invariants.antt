-- `put_line` meets its contract. The invariant: after the index stand the first j words, a space before each. Assumes nothing.
use mathlib.Core.Path.{◌≡◌}
use Prim.Native.Nat.{◌≤◌, ◌-◌}
use lib.ListN.{length, take}
use Rattle.plan_page.specs.Page.{spaced}
use Rattle.plan_page.specs.Put.{Put}
use Rattle.plan_page.proofs.line.put_line.Given as goal

abbrev pub invariant-loop-j : goal.invariant-loop-j
invariant-loop-j l =
    (l.j ≤ length l.row) × (length l.out ≡ length l.initial.out) × Put (spaced (take l.j l.row)) l.initial.end l.initial.out l.end l.out

abbrev pub decreases-loop-j : goal.decreases-loop-j
decreases-loop-j l = length l.row - l.j
