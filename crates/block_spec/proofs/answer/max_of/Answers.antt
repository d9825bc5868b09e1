-- `max_of` meets its contract: the depth is found, since the number is one. Assumes nothing.
use borrow.Author.Rules.{sfits_of}
use mathlib.Core.Path.{sym, ◌∙◌, ap, subst}
use lib.IntN.{pos}
use mir.Syntax.{w32}
use Rattle.std.specs.Prelude.{IsOk}
use Rattle.numbers.specs.Depth.{most}
use Rattle.numbers.proofs.Agree.{depth-found, depth-back}
use Rattle.signed.proofs.Bound.{back}
use Rattle.block_spec.proofs.answer.max_of.Goals as goal

pub unwrap-requires : goal.unwrap-requires
unwrap-requires c = subst IsOk (sym c.try_from.ensures) (depth-found c.args.d c.requires)

pub returns : goal.returns
returns c =
    back w32 (sfits_of c.max.type_inv) ∙ c.max.ensures
    ∙ ap (λ n. pos (most n)) (depth-back c.args.d _ (sym c.try_from.ensures ∙ c.unwrap.ensures))
