-- `run_in_range` meets its contract. The invariant: ok tells of the first i samples. Assumes nothing.
use mathlib.Core.Path.{◌≡◌}
use Rattle.samples.specs.Sample.{is_sample}
use Rattle.edge_line.specs.Every.{every}
use Rattle.edge_line.specs.Run.{run_at}
use Rattle.edge_line.proofs.run.run_in_range.Given as goal

abbrev pub invariant-loop-i : goal.invariant-loop-i
invariant-loop-i l = l.ok ≡ every (λ k. is_sample l.m (run_at l.plane l.start l.stride k)) l.i
