-- `clashes` meets its contract. Assumes nothing.
use mathlib.Core.Path.{sym, ◌∙◌, subst}
use Rattle.job.proofs.Stands.{standing}
use Rattle.clash.specs.Rects.{Near}
use Rattle.clash.proofs.Placed.{near_of}
use Rattle.clash.proofs.Meets.{first_off, second-off, clash-is}
use Rattle.clash.proofs.pair.clashes.Goals as goal

pub returns-then-not-stands : goal.returns-then-not-stands
returns-then-not-stands c = first_off _ _ _ _ _ (sym c.stands.ensures ∙ c.if-not-stands.true)

pub returns-then-not-stands-2 : goal.returns-then-not-stands-2
returns-then-not-stands-2 c = second-off _ _ _ _ _ (sym c.stands-2.ensures ∙ c.if-not-stands-2.true)

pub hits-there-requires : goal.hits-there-requires
hits-there-requires c = subst Near (sym c.spec_of-t.ensures) (near_of _ _ _ (standing _ _ _ _ (sym c.stands-2.ensures ∙ c.if-not-stands-2.false)))

pub hits-back-requires : goal.hits-back-requires
hits-back-requires c = subst Near (sym c.spec_of-s.ensures) (near_of _ _ _ (standing _ _ _ _ (sym c.stands.ensures ∙ c.if-not-stands.false)))

pub returns : goal.returns
returns c =
    clash-is _ _ _ _ _ _ _ (sym c.stands.ensures ∙ c.if-not-stands.false) (sym c.stands-2.ensures ∙ c.if-not-stands-2.false) c.spec_of-s.ensures c.spec_of-t.ensures _ _
    c.hits-there.ensures c.hits-back.ensures
