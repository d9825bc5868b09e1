-- `run_rows` meets its contract. The invariant: the entries of the order that were passed are done. Assumes nothing.
use mathlib.Core.Path.{◌≡◌}
use lib.ListN.{length, take}
use Rattle.plan.specs.Run.{memory, in_order}
use Rattle.plan.proofs.walk.run_rows.Given as goal

abbrev pub invariant-loop-entry : goal.invariant-loop-entry
invariant-loop-entry l =
    (length l.plane ≡ length l.initial.plane) × (length l.answers ≡ length l.initial.answers)
    × (memory l.width l.height l.differences l.plane l.answers ≡ in_order l.width l.height l.differences l.plan (take l.entry-index l.order) (memory l.width l.height l.differences l.initial.plane l.initial.answers))
    × (length l.above ≡ 128) × (length l.left ≡ 128) × (length l.out ≡ 4096)
