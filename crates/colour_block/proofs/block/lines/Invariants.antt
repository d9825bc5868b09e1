-- `lines` meets its contract. The invariant: the first j rows are written, o is j width, and s is where row j starts. Assumes nothing.
use Prim.Native.Nat.{◌-◌, ◌*◌, ◌≤◌}
use mathlib.Core.Path.{◌≡◌}
use lib.ListN.{length}
use Rattle.lists.specs.Fill.{filled}
use Rattle.lists.specs.Block.{rows}
use Rattle.colour_block.specs.Lines.{row_start, found}
use Rattle.colour_block.proofs.block.lines.Given as goal

abbrev pub invariant-loop-j : goal.invariant-loop-j
invariant-loop-j l =
    (l.j ≤ l.b.height) × (l.o ≡ l.j * l.b.width) × (l.s ≡ row_start l.b l.j) × (length l.out ≡ length l.initial.out) × (l.out ≡ filled l.o (rows l.b.width (found l.k l.luma l.b)) l.initial.out)

abbrev pub decreases-loop-j : goal.decreases-loop-j
decreases-loop-j l = l.b.height - l.j
