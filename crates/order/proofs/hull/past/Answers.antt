-- `past` meets its contract. Assumes nothing.
use mathlib.Core.Path.{sym, ◌∙◌, ap}
use Rattle.clash.specs.Hull.{past}
use Rattle.order.proofs.hull.past.Goals as goal

pub returns-then-there : goal.returns-then-there
returns-then-there c = c.min.ensures ∙ ap (λ b. past b c.args.more c.args.b) (sym c.if-there.true)
