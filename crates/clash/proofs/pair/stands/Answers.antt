-- `stands` meets its contract. Assumes nothing.
use mathlib.Core.Path.{◌∙◌, ap}
use Rattle.std.specs.Prelude.{is_ok}
use Rattle.numbers.proofs.Named.{ok-is-done}
use Rattle.job.specs.Rules.{stands}
use Rattle.clash.proofs.pair.stands.Goals as goal

pub returns : goal.returns
unfolding stands
returns c = c.is_ok.ensures.value ∙ ap is_ok c.row_answer.ensures ∙ ok-is-done _
