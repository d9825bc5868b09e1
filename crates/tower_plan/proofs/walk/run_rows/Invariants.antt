-- `run_rows` meets its contract. The invariant: the entries of the order that were passed are done. Assumes nothing.
use Rattle.planes.specs.Three.{Sized}
use Prim.Native.Nat.{◌*◌}
use mathlib.Core.Path.{◌≡◌}
use lib.ListN.{length, take}
use Rattle.tower_work.specs.Granted.{three}
use Rattle.tower_plan.specs.Run.{tower_memory, tower_in_order}
use Rattle.tower_plan.proofs.walk.run_rows.Given as goal

abbrev pub invariant-loop-entry : goal.invariant-loop-entry
invariant-loop-entry l =
    Sized (l.width * l.height) (three l.p0 l.p1 l.p2) × (length l.answers ≡ length l.initial.answers)
    × (tower_memory l.width l.height l.differences (three l.p0 l.p1 l.p2) l.answers
    ≡ tower_in_order l.width l.height l.differences l.plan (take l.entry-index l.order) (tower_memory l.width l.height l.differences (three l.initial.p0 l.initial.p1 l.initial.p2) l.initial.answers))
    × (length l.luma ≡ 65536) × (length l.chroma ≡ 65536) × (length l.block ≡ 16384) × (length l.out ≡ 4096)
