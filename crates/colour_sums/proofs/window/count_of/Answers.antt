-- `count_of` meets its contract. Assumes nothing.
use mathlib.Core.Path.{sym, ◌∙◌}
use Prim.Native.Nat.{◌+◌, ◌*◌, ◌-◌}
use Rattle.colour_sums.proofs.Count.{count-is}
use Rattle.colour_sums.proofs.window.count_of.Goals as goal

pub returns : goal.returns
returns c =
    (λ j. c.rows_above-above.ensures j * c.saturating_sub.ensures j + (c.saturating_sub-2.ensures j - c.rows_above-above.ensures j) * c.few.ensures j)
    ∙ sym (count-is c.args.w)
