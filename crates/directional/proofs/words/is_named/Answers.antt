-- `is_named` meets its contract: the three rules, one after the other. Assumes nothing.
use mathlib.Core.Path.{sym, ◌∙◌}
use Rattle.row_words.proofs.Dirs.{dir-yes, dir-no}
use Rattle.directional.specs.Words.{is_named}
use Rattle.directional.proofs.words.is_named.Goals as goal

pub returns-in_default : goal.returns-in_default
unfolding is_named
returns-in_default c = simp (dir-no c.args.direction (sym c.try_from.ensures ∙ c.in_default.is))

pub returns-then-not-is_delta : goal.returns-then-not-is_delta
unfolding is_named
returns-then-not-is_delta c =
    simp (dir-yes c.args.direction _ (sym c.try_from.ensures ∙ c.in-Ok.is), sym c.is_delta.ensures ∙ c.if-not-is_delta.true)

pub returns : goal.returns
unfolding is_named
returns c =
    simp (dir-yes c.args.direction _ (sym c.try_from.ensures ∙ c.in-Ok.is), sym c.is_delta.ensures ∙ c.if-not-is_delta.false) c.no_stray.ensures
