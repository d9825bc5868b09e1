-- `fill_long` meets its contract. The invariant: the first i entries are written. Assumes nothing.
use Rattle.std.proofs.Common.{◌≡◌, ℕ, ◌<◌, length}
use Rattle.lists.specs.Fill.{filled}
use Rattle.rows.proofs.fill_long.Given as goal

abbrev pub invariant-loop-i : goal.invariant-loop-i
invariant-loop-i g l =
    (p : ℕ → _) → ((k : ℕ) (x : _) → k < length l.initial.row → goal.F-post g l.f k x → x ≡ p k) → l.row ≡ filled l.i p l.initial.row
