-- `weighted_row` meets its contract: with no weight the second step stays where it is. Assumes nothing.
use native.Mathlib.Omega.{arith}
use mathlib.Core.Path.{sym, ◌∙◌}
use lib.IntN.{pos, nat_abs}
use lib.ListN.{length}
use Rattle.lists.specs.Fill.{tab}
use Rattle.lists.specs.Block.{sample}
use Rattle.smooth_steps.specs.Parts.{edge_at}
use Rattle.smooth_steps.proofs.Parts.{weighed-none}
use Rattle.smooth_lines.proofs.down.weighted_row.Goals as goal

pub quad_row-requires : goal.quad_row-requires
quad_row-requires c =
    let s = c.before.before.before in
    let p = s.requires.0 in
    (c.if-row-eq4.true, record { long = omega (arith, p.long); samples = λ i h. p.samples i (omega arith) }, s.requires.1, s.requires.2)

pub returns-then-v-eq0 : goal.returns-then-v-eq0
returns-then-v-eq0 c =
    let f = c.before.before.before.before in
    let a = f.args in
    c.ramp_row.ensures
    ∙ (λ j. tab (length a.row.now) (λ i. sample (pos (sym (weighed-none a.m a.e (nat_abs (edge_at a.above.now i)) a.w a.v f.if-v-eq0.true) j))))
