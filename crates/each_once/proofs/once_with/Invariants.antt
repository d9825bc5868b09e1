-- `once_with` meets its contract: so many entries are passed, which are below n and differ, and their flags are set. Assumes nothing.
use mathlib.Core.Path.{◌≡◌}
use lib.ListN.{length}
use Rattle.reorder.specs.Once.{FreshTo}
use Rattle.each_once.proofs.Seen.{Seen}
use Rattle.each_once.proofs.once_with.Given as goal

abbrev pub invariant-loop-entry : goal.invariant-loop-entry
invariant-loop-entry l = (length l.seen ≡ 1024) × FreshTo l.n l.entry-index l.order × Seen l.entry-index l.order l.seen
