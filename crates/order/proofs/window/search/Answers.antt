-- `search` meets its contract. Assumes nothing.
use native.Mathlib.Omega.{arith}
use mathlib.Core.Path.{sym, ◌∙◌}
use mathlib.Core.Logic.{⊎_elim}
use mathlib.Core.Bool.{true≢false, false≢true}
use Rattle.order.proofs.Lists.{neither, any_none}
use Rattle.order.proofs.window.search.Goals as goal

pub returns : goal.returns
returns c =
    let far = c.any_meets-far in
    let near = c.any_meets-near in
    let off = neither near.result far.result c.if-near-far.false in
    record {
      found = λ e. absurd (false≢true e);
      free = λ e j a b t. absurd (⊎_elim (λ q. true≢false (sym q ∙ any_none _ _ _ _ (sym near.ensures ∙ off.0) j (omega arith) (omega arith))) (λ q. true≢false (sym q ∙ any_none _ _ _ _ (sym far.ensures ∙ off.1) j (omega arith) (omega arith))) t);
    }
