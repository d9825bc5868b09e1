-- A walk over an order that tests it (refusal 23, document 01, Refusal numbers): what is known when k entries are passed, and what it comes to.
-- `clash` is any test of two rows that is the same either way round. The rows passed are noted, and no others: `Noted j` and `Blank j` are what is
-- known of row j's notes when it has run, and when it has not. Assumes nothing.
use mathlib.Core.Path.{◌≡◌, sym, ◌∙◌, ap}
use mathlib.Core.Logic.{◌≢◌}
use mathlib.Core.Bool.{Bool, true, false, true≢false}
use mathlib.Core.List.{List}
use Prim.Native.Nat.{ℕ, ◌+◌, ◌≤◌, ◌<◌}
use native.Mathlib.Decide.{ℕ_discrete, dec_lt}
use native.Mathlib.Omega.{arith}
use lib.ListN.{get_or}
use Rattle.reorder.specs.Test.{Decides}
use Rattle.reorder.specs.Entry.{place}
use Rattle.reorder.specs.Once.{Once, Fresh}
use Rattle.reorder.specs.Check.{kept_b}
use Rattle.reorder.proofs.Test.{fails}
use Rattle.reorder.proofs.Entry.{place-lt}
use Rattle.reorder.proofs.Places.{entry_place}
use Rattle.reorder.proofs.Once.{fresh-of-once}
use Rattle.reorder.proofs.Check.{pairs_decide}
use Rattle.reorder.proofs.Kept.{pairs-at}

-- the row that entry a names
abbrev pub entry : List ℕ → ℕ → ℕ
entry order a = get_or order a 0

-- k entries are passed. `top` is above them; their pairs are as they should be; their rows are noted, and no others
pub record Walked (clash : ℕ → ℕ → Bool) (n : ℕ) (order : List ℕ) (Noted Blank : ℕ → Type 0) (k top : ℕ) : Type 0 where
  pub above : (a : ℕ) → a < k → entry order a < top
  pub within : top ≤ n
  pub pairs : (a b : ℕ) → a < b → b < k → clash (entry order a) (entry order b) ≡ true → entry order a < entry order b
  pub ran : (a : ℕ) → a < k → Noted (entry order a)
  pub rest : (a : ℕ) → k ≤ a → a < n → Blank (entry order a)

module _ (clash : ℕ → ℕ → Bool) (turned : (i j : ℕ) → clash i j ≡ clash j i) (n : ℕ) (order : List ℕ) (once : Once n order) where
  fresh : Fresh n order
  fresh = fresh-of-once n order once

  -- the order is kept if of two clashing entries the first is the lower
  kept-by-entries : Decides (kept_b clash n order)
      ((a b : ℕ) → a < b → b < n → clash (entry order a) (entry order b) ≡ true → entry order a < entry order b)
  kept-by-entries =
      let p = pairs_decide clash n (λ i j. clash i j ≡ true) (λ i j h k. (λ e. e, λ e. e)) order in
      let q = pairs-at (λ i j. clash i j ≡ true) (λ i j e. turned j i ∙ e) n order once in
      (λ e. q.0 (p.0 e), λ h. p.1 (q.1 h))

  -- none is passed
  pub walked_none : (Noted Blank : ℕ → Type 0) → ((j : ℕ) → j < n → Blank j) → Walked clash n order Noted Blank 0 0
  walked_none Noted Blank blank = record {
    above = λ a h. absurd (omega arith);
    within = omega arith;
    pairs = λ a b h k. absurd (omega arith);
    ran = λ a h. absurd (omega arith);
    rest = λ a h k. blank (entry order a) (fresh.below a k);
  }

  module _ (Noted Blank : ℕ → Type 0) (k top : ℕ) (s : Walked clash n order Noted Blank k top) where
    -- a row has run or it has not
    pub ran-or-rest : {P : Type 0} (j : ℕ) → j < n → ((a : ℕ) → a < k → entry order a ≡ j → Noted j → P) → (Blank j → P) → P
    ran-or-rest j h yes-ran not-ran =
        let c = once.each j h in
        let a = place j order in
        let at : entry order a ≡ j = entry_place order j (omega (arith, c)) in
        elim (dec_lt a k) [
          | yes q ↦ yes-ran a q at (rw at at (s.ran a q))
          | no q ↦ not-ran (rw at at (s.rest a (omega arith) (omega (arith, place-lt j order (omega (arith, c)), once.long))))
        ]

    -- a row after entry k that has run clashes with it: the pair is turned round
    pub walked-found : k < n → (j : ℕ) → entry order k < j → j < top → (Noted j → clash (entry order k) j ≡ true) → ¬ (Blank j)
        → false ≡ kept_b clash n order
    walked-found h j l m clashes there = ran-or-rest j (omega (arith, s.within))
        (λ a q at ran. sym ((fails _ _ kept-by-entries).1 (λ f. omega (arith, at, f a k q h (rw at (turned j (entry order k) ∙ clashes ran))))))
        (λ b. absurd (there b))

    -- none does: one entry more is passed, and its row is noted
    pub walked_more : (Noted' Blank' : ℕ → Type 0) (top' : ℕ) → k < n → top ≤ top' → entry order k < top' → top' ≤ n
        → ((j : ℕ) → entry order k < j → j < top → Noted j → clash (entry order k) j ≡ false)
        → Noted' (entry order k) → ((j : ℕ) → j < n → j ≢ entry order k → (Noted j → Noted' j) × (Blank j → Blank' j))
        → Walked clash n order Noted' Blank' (k + 1) top'
    walked_more Noted' Blank' top' h over above within free here other = record {
      above = λ a l. elim (ℕ_discrete a k) [ yes q ↦ omega (arith, ap (entry order) q) | no q ↦ omega (arith, s.above a (omega arith)) ];
      within = within;
      pairs = λ a b l m c. elim (ℕ_discrete b k) [ yes q ↦ rw q (passed a (omega arith) (rw q at c)) | no q ↦ s.pairs a b l (omega arith) c ];
      ran = λ a l. elim (ℕ_discrete a k) [
        | yes q ↦ rw q here
        | no q ↦ (other (entry order a) (fresh.below a (omega arith)) (fresh.differ a k (omega arith) h)).0 (s.ran a (omega arith))
      ];
      rest = λ a l m. (other (entry order a) (fresh.below a m) (λ e. fresh.differ k a (omega arith) m (sym e))).1 (s.rest a (omega arith) m);
    }
      where
        passed : (a : ℕ) → a < k → clash (entry order a) (entry order k) ≡ true → entry order a < entry order k
        passed a l c = elim (dec_lt (entry order a) (entry order k)) [
          | yes q ↦ q
          | no q ↦ elim (ℕ_discrete (entry order a) (entry order k)) [
            | yes p ↦ absurd (fresh.differ a k l h p)
            | no p ↦
                absurd (true≢false (sym (turned (entry order k) (entry order a) ∙ c) ∙ free (entry order a) (omega arith) (s.above a l) (s.ran a l)))
          ]
        ]

    -- all entries are passed
    pub walked_all : n ≤ k → true ≡ kept_b clash n order
    walked_all h = sym (kept-by-entries.1 (λ a b l m. s.pairs a b l (omega arith)))
