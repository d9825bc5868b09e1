-- A rule of a constant table, proved at all of its entries by one test that antt computes, one entry after the other; a table of tables goes row by
-- row (`at2`). Assumes nothing.
use mathlib.Core.Path.{◌≡◌, ◌∙◌, subst, sym}
use mathlib.Core.Bool.{Bool, true, false}
use mathlib.Core.List.{List, [], ◌∷◌}
use Prim.Native.Nat.{ℕ, zero, suc, ◌+◌, ◌<◌}
use native.Mathlib.Nat.{add-zero, zero-add, add-suc, suc-add, le_of_suc-le-suc, not-suc-le-zero}
use lib.Dec.{T, eqb, eqb→eq}
use lib.ListN.{length, get_or}

abbrev pub both : Bool → Bool → Bool
both true b = b
both false b = false

pub both_left : (a b : Bool) → T (both a b) → T a
both_left true b t = tt
both_left false b t = t

pub both_right : (a b : Bool) → T (both a b) → T b
both_right true b t = t
both_right false b t = absurd t

module _ {A : Type 0} (d : A) where
  -- the test f passes at each entry of the list and its place, counted from i
  abbrev pub every : (ℕ → A → Bool) → ℕ → List A → Bool
  every f i [] = true
  every f i (x ∷ xs) = both (f i x) (every f (suc i) xs)

  from : (f : ℕ → A → Bool) (xs : List A) (i : ℕ) → T (every f i xs) → (k : ℕ) → k < length xs → T (f (i + k) (get_or xs k d))
  from f [] i t k h = absurd (not-suc-le-zero h)
  from f (x ∷ xs) i t zero h = subst (λ (m : ℕ). T (f m x)) (sym (add-zero i)) (both_left (f i x) (every f (suc i) xs) t)
  from f (x ∷ xs) i t (suc k) h =
      subst (λ (m : ℕ). T (f m (get_or xs k d))) (suc-add i k ∙ sym (add-suc i k))
      (from f xs (suc i) (both_right (f i x) (every f (suc i) xs) t) k (le_of_suc-le-suc h))

  pub at : (f : ℕ → A → Bool) (xs : List A) → T (every f 0 xs) → (k : ℕ) → k < length xs → T (f k (get_or xs k d))
  at f xs t k h = subst (λ (m : ℕ). T (f m (get_or xs k d))) (zero-add k) (from f xs 0 t k h)

  -- rows of n entries each
  abbrev pub row : (ℕ → ℕ → A → Bool) → ℕ → ℕ → List A → Bool
  row f n r xs = both (eqb (length xs) n) (every (f r) 0 xs)

module _ {A : Type 0} (d : A) where
  pub at2 : (f : ℕ → ℕ → A → Bool) (n : ℕ) (xss : List (List A)) → T (every [] (row d f n) 0 xss) → (r k : ℕ) → r < length xss → k < n → T (f r k (get_or (get_or xss r []) k d))
  at2 f n xss t r k hr hk =
      let xs = get_or xss r [] in
      let u : T (row d f n r xs) = at [] (row d f n) xss t r hr in
      let e : length xs ≡ n = eqb→eq (length xs) n (both_left (eqb (length xs) n) (every d (f r) 0 xs) u) in
      at d (f r) xs (both_right (eqb (length xs) n) (every d (f r) 0 xs) u) k (subst (λ (m : ℕ). k < m) (sym e) hk)
