-- `error_of` meets its contract: at most 4,096 distances are added, and their sum fits. Assumes nothing.
use Rattle.std.proofs.Common.{◌≤◌, ◌*◌}
use Rattle.plane_picture.proofs.measure.error_of.Given as goal

abbrev pub invariant-loop-i : goal.invariant-loop-i
invariant-loop-i l = l.sum ≤ 65535 * l.i
