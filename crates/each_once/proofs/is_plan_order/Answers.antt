-- `is_plan_order` meets its contract. Assumes nothing.
use mathlib.Core.Path.{◌∙◌}
use borrow.Author.Rules.{rules}
use borrow.Author.Tests.{tests}
use lib.Dec.{eqb}
use Rattle.std.proofs.lemmas.Iterator.{YieldsList-from_slice}
use Rattle.std.proofs.lemmas.Iterator.Consumers.{YieldsList-from_enumerate, YieldsList-at}
use Rattle.std.proofs.lemmas.Iterator.Search.{all_from_yields_List}
use Rattle.each_once.proofs.InPlace.{own_listed}
use Rattle.each_once.proofs.is_plan_order.Goals as goal

pub returns : goal.returns
returns c =
    all_from_yields_List (λ p. eqb p.1 p.0) _ _ _ c.all.ensures.ran
    (YieldsList-from_enumerate (YieldsList-at c.enumerate.ensures.source (YieldsList-from_slice c.args.order.now cc)) c.enumerate.ensures.count) (λ x b q k. search (rules, tests))
    ∙ own_listed c.args.order.now
