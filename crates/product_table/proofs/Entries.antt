-- A first factor's table, filled for one count of digits after the other. Assumes nothing.
use mathlib.Core.Path.{◌≡◌, ap, ◌∙◌}
use mathlib.Core.Logic.{⊎_elim}
use mathlib.Core.List.{List}
use Prim.Native.Nat.{ℕ, ◌+◌, ◌-◌, ◌/◌, ◌≤◌, ◌<◌}
use native.Mathlib.Omega.{arith}
use lib.IntN.{ℤ, pos}
use lib.ListN.{length, get_or, set, length-set}
use lib.Seq.{get_or-set_same, get_or-set_other}
use Rattle.signed.proofs.Naturals.{either}
use Rattle.product_table.specs.Wide.{over_by, cleared, mask, WideTo}

-- nothing is asked of the first 0 entries
pub wide-none : (a : ℤ) (xs : List ℤ) → length xs ≡ 24 → WideTo 0 a xs
wide-none a xs e = record { long = e; first = λ l h. absurd (omega arith); second = λ l h. absurd (omega arith) }

-- one more, in each half
module _ (k : ℕ) (a : ℤ) (xs : List ℤ) (x y : ℤ) (h : k < 12) (w : WideTo k a xs)
    (p : x ≡ cleared a (over_by a (12 - k) / 2)) (q : y ≡ pos (mask (over_by a (12 - k) - over_by a (12 - k) / 2))) where
  abbrev half : List ℤ
  half = set xs k x

  first : (l : ℕ) → l < k + 1 → get_or (set half (12 + k) y) l (pos 0) ≡ cleared a (over_by a (12 - l) / 2)
  first l m =
      get_or-set_other half (12 + k) l y (pos 0) (λ e. omega arith)
      ∙ ⊎_elim
      (λ (n : k ≤ l).
      let e : l ≡ k = omega arith in
      ap (λ (i : ℕ). get_or half i (pos 0)) e ∙ get_or-set_same xs k x (pos 0) (omega (arith, w.long)) ∙ p ∙ ap (λ (i : ℕ). cleared a (over_by a (12 - i) / 2)) (omega arith))
      (λ (n : l < k). get_or-set_other xs k l x (pos 0) (λ e. omega arith) ∙ w.first l n)
      (either k l)

  second : (l : ℕ) → l < k + 1 → get_or (set half (12 + k) y) (12 + l) (pos 0) ≡ pos (mask (over_by a (12 - l) - over_by a (12 - l) / 2))
  second l m =
      ⊎_elim
      (λ (n : k ≤ l).
      let e : l ≡ k = omega arith in
      ap (λ (i : ℕ). get_or (set half (12 + k) y) (12 + i) (pos 0)) e
      ∙ get_or-set_same half (12 + k) y (pos 0) (omega (arith, length-set xs k x, w.long))
      ∙ q
      ∙ ap (λ (i : ℕ). pos (mask (over_by a (12 - i) - over_by a (12 - i) / 2))) (omega arith))
      (λ (n : l < k).
      get_or-set_other half (12 + k) (12 + l) y (pos 0) (λ e. omega arith) ∙ get_or-set_other xs k (12 + l) x (pos 0) (λ e. omega arith) ∙ w.second l n)
      (either k l)

  pub wide-more : WideTo (k + 1) a (set half (12 + k) y)
  wide-more = record { long = length-set half (12 + k) y ∙ length-set xs k x ∙ w.long; first = first; second = second }
