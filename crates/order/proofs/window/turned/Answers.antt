-- `turned` meets its contract. Assumes nothing.
use mathlib.Core.Path.{sym, ◌∙◌}
use mathlib.Core.Logic.{⊎_map, ⊎_elim}
use mathlib.Core.Bool.{true≢false, false≢true}
use Rattle.order.proofs.Lists.{neither, either}
use Rattle.order.proofs.window.turned.Goals as goal

pub returns-then-near-far : goal.returns-then-near-far
returns-then-near-far c =
    let far = c.meets_at-far in
    let near = c.meets_at-near in
    record {
      found = λ e. (⊎_map (λ q. sym near.ensures ∙ q) (λ q. sym far.ensures ∙ q) (either near.result far.result c.if-near-far.true), sym c.rows_clash.ensures ∙ e);
      free = λ e t. sym c.rows_clash.ensures ∙ e;
    }

pub returns : goal.returns
returns c =
    let far = c.meets_at-far in
    let near = c.meets_at-near in
    let off = neither near.result far.result c.if-near-far.false in
    record {
      found = λ e. absurd (false≢true e);
      free = λ e t. absurd (⊎_elim (λ q. true≢false (sym q ∙ sym near.ensures ∙ off.0)) (λ q. true≢false (sym q ∙ sym far.ensures ∙ off.1)) t);
    }
