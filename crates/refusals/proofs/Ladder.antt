-- A ladder that comes to done has all its rules kept; and rules that are tested after others. Assumes nothing.
use mathlib.Core.Path.{◌≡◌, refl, sym, ◌∙◌, ap}
use mathlib.Core.Bool.{Bool, true, false, cond}
use mathlib.Core.List.{List, [], ◌∷◌, ◌++◌}
use Rattle.std.specs.Prelude.{Ok, Err, ⊤}
use Rattle.numbers.specs.Answer.{Answer, done, is_done}
use Rattle.numbers.specs.declared.answer.Refusal.{Refusal}
use Rattle.numbers.proofs.Look.{err-ok}
use Rattle.numbers.proofs.Named.{done-is, refusal-not-done}
use Rattle.refusals.specs.Ladder.{Rule, ◌else◌, ladder}

abbrev pub AllKept : List Rule → Type 0
AllKept [] = Unit
AllKept ((kept else refusal) ∷ rules) = (kept ≡ true) × AllKept rules

pub all-kept : (rules : List Rule) → ladder rules ≡ done → AllKept rules
all-kept [] e = tt
all-kept ((kept else refusal) ∷ rules) e = go kept (all-kept rules) e
  where
    go : (k : Bool) → (ladder rules ≡ done → AllKept rules) → cond k (ladder rules) (Err refusal) ≡ done → (k ≡ true) × AllKept rules
    go true later h = (refl, later h)
    go false later h = absurd (err-ok refusal tt h)

-- ---- rules that are tested after others
pub kept_append : (rules more : List Rule) → AllKept (rules ++ more) → AllKept rules × AllKept more
kept_append [] more k = (tt, k)
kept_append ((kept else refusal) ∷ rules) more k = let later = kept_append rules more k.1 in ((k.0, later.0), later.1)

pub ladder-append : (rules more : List Rule) → ladder (rules ++ more) ≡ cond (is_done (ladder rules)) (ladder more) (ladder rules)
unfolding is_done
ladder-append [] more = refl
ladder-append ((kept else refusal) ∷ rules) more = go kept (ladder-append rules more)
  where
    go : (k : Bool)
        → ladder (rules ++ more) ≡ cond (is_done (ladder rules)) (ladder more) (ladder rules)
        → cond k (ladder (rules ++ more)) (Err refusal) ≡ cond (is_done (cond k (ladder rules) (Err refusal))) (ladder more) (cond k (ladder rules) (Err refusal))
    go true later = later
    go false later = sym (ap (λ b. cond b (ladder more) (Err refusal)) (refusal-not-done refusal))

-- ---- in a proof that follows the tests: a rule that is kept leaves the later ones, and one that is broken gives its answer
pub kept : (a later refusal : Answer) (k : Bool) → k ≡ true → a ≡ cond k later refusal → a ≡ later
kept a later refusal k e p = p ∙ ap (λ t. cond t later refusal) e

pub broken : (a later refusal : Answer) (k : Bool) → k ≡ false → a ≡ cond k later refusal → refusal ≡ a
broken a later refusal k e p = sym (p ∙ ap (λ t. cond t later refusal) e)

-- the same of rules that are tested together
pub all_of : (rules : List Rule) → is_done (ladder rules) ≡ true → AllKept rules
all_of rules e = all-kept rules (done-is (ladder rules) e)

module _ (rules more : List Rule) {a : Answer} where
  pub segment-kept : is_done (ladder rules) ≡ true → a ≡ ladder (rules ++ more) → a ≡ ladder more
  segment-kept e p = kept a (ladder more) (ladder rules) (is_done (ladder rules)) e (p ∙ ladder-append rules more)

  pub segment-broken : is_done (ladder rules) ≡ false → a ≡ ladder (rules ++ more) → ladder rules ≡ a
  segment-broken e p = broken a (ladder more) (ladder rules) (is_done (ladder rules)) e (p ∙ ladder-append rules more)

-- the same of what a `?` finds: it goes on after Ok, and returns an Err
module _ (rules more : List Rule) where
  pub ladder-ok : (u : ⊤) → ladder rules ≡ Ok u → ladder (rules ++ more) ≡ ladder more
  unfolding is_done
  ladder-ok u e = ladder-append rules more ∙ ap (λ a. cond (is_done a) (ladder more) a) e

  pub ladder-err : (r : Refusal) → ladder rules ≡ Err r → ladder (rules ++ more) ≡ Err r
  ladder-err r e =
      ladder-append rules more
      ∙ ap (λ a. cond (is_done a) (ladder more) a) e
      ∙ ap (λ b. cond b (ladder more) (Err r)) (refusal-not-done r)

module _ (rules more : List Rule) {a : Answer} where
  pub segment-ok : {u : ⊤} → Ok u ≡ ladder rules → a ≡ ladder (rules ++ more) → a ≡ ladder more
  segment-ok {u = u} e p = p ∙ ladder-ok rules more u (sym e)

  pub segment-err : {r : Refusal} → Err r ≡ ladder rules → a ≡ ladder (rules ++ more) → Err r ≡ a
  segment-err {r = r} e p = sym (p ∙ ladder-err rules more r (sym e))

pub all-ok : (rules : List Rule) {u : ⊤} → Ok u ≡ ladder rules → AllKept rules
all-ok rules e = all-kept rules (sym e)
