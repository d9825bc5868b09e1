-- The plan's own order is accepted, whatever clashes. Assumes nothing.
use mathlib.Core.Path.{◌≡◌, refl, sym}
use mathlib.Core.Bool.{Bool, true, false, not, ◌||◌}
use mathlib.Core.List.{List, [], ◌∷◌}
use Prim.Native.Nat.{ℕ, zero, suc, ◌+◌, ◌<◌}
use native.Mathlib.Nat.{zero-add}
use native.Mathlib.Omega.{arith}
use lib.Dec.{ltb, eqb}
use lib.ListN.{length, get_or}
use borrow.Author.Tests.{lt-ltb}
use Rattle.std.specs.List.{list_all, enumerate_from}
use Rattle.reorder.specs.Test.{Decides, all_below}
use Rattle.reorder.specs.Entry.{place}
use Rattle.reorder.specs.Once.{Once}
use Rattle.reorder.specs.Check.{once_b, kept_b}
use Rattle.reorder.proofs.Test.{eq-decides, and-decides, all-decides, fails}
use Rattle.reorder.proofs.Counts.{once-single}
use Rattle.reorder.proofs.Places.{place-entry}
use Rattle.reorder.proofs.Once.{once-of-fresh}
use Rattle.reorder.proofs.Check.{once-decides}
use Rattle.each_once.specs.PlanOrder.{is_plan_order}

pub own-decides : (order : List ℕ) → Decides (is_plan_order order) ((k : ℕ) → k < length order → get_or order k 0 ≡ k)
unfolding is_plan_order
own-decides order = all-decides (length order) _ _ (λ k h. eq-decides (get_or order k 0) k)

-- entries that are each held against their place, counted from n
listed : (n : ℕ) (order : List ℕ)
    → Decides (list_all (λ p. eqb p.1 p.0) (enumerate_from n order)) ((k : ℕ) → k < length order → get_or order k 0 ≡ n + k)
listed n [] = (λ e k h. absurd (omega arith), λ h. refl)
listed n (x ∷ xs) =
    let d = and-decides _ _ _ _ (eq-decides x n) (listed (n + 1) xs) in (
      λ e k. elim k as (λ k. k < length (x ∷ xs) → get_or (x ∷ xs) k 0 ≡ n + k) [
        | zero ↦ λ h. omega (arith, (d.0 e).0)
        | suc k ↦ λ h. omega (arith, (d.0 e).1 k (omega arith))
      ],
      λ h. d.1 (omega (arith, h 0 (omega arith)), λ k l. omega (arith, h (suc k) (omega arith))),
    )

alike : (a b : Bool) (P : Type 0) → Decides a P → Decides b P → a ≡ b
alike true b P da db = sym (db.1 (da.0 refl))
alike false b P da db = sym ((fails b P db).1 ((fails false P da).0 refl))

pub own_listed : (order : List ℕ) → list_all (λ p. eqb p.1 p.0) (enumerate_from 0 order) ≡ is_plan_order order
own_listed order = alike _ _ _ (simp zero-add at (listed 0 order)) (own-decides order)

module _ (order : List ℕ) (own : is_plan_order order ≡ true) where
  at : (k : ℕ) → k < length order → get_or order k 0 ≡ k
  at = (own-decides order).0 own

  own-holds : Once (length order) order
  own-holds = once-of-fresh (length order) order (record {
    long = refl;
    below = λ k h. omega (arith, at k h);
    differ = λ a b h k e. omega (arith, at a (omega arith), at b k, e);
  })

  pub own-once : once_b (length order) order ≡ true
  own-once = (once-decides (length order) order).1 own-holds

  -- each job stands at its own number
  stands_at : (k : ℕ) → k < length order → place k order ≡ k
  stands_at k h = rw (at k h) at (place-entry order k h (once-single (length order) order own-holds (get_or order k 0)))

  pub own-kept : (clash : ℕ → ℕ → Bool) → kept_b clash (length order) order ≡ true
  unfolding kept_b
  own-kept clash =
      (all-decides (length order) _ (λ j. all_below j (λ i. not (clash i j) || ltb (place i order) (place j order)) ≡ true) (λ j k. (λ e. e, λ e. e))).1
      (λ j k. (all-decides j _ (λ i. (not (clash i j) || ltb (place i order) (place j order)) ≡ true) (λ i h. (λ e. e, λ e. e))).1
      (λ i h. later (not (clash i j)) _ (lt-ltb (place i order) (place j order) (omega (arith, stands_at i (omega arith), stands_at j k)))))
    where
      later : (a b : Bool) → b ≡ true → (a || b) ≡ true
      later true b e = refl
      later false b e = e
