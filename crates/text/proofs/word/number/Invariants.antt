-- `number` meets its contract: no sum wraps, since what is read so far is at most `most`. Assumes nothing.
use Rattle.std.proofs.Common.{◌≤◌, ◌≡◌, length}
use Rattle.text.proofs.word.number.Given as goal

abbrev pub invariant-loop-i : goal.invariant-loop-i
invariant-loop-i l = (l.n ≤ l.most) × (l.end ≡ length l.s)
