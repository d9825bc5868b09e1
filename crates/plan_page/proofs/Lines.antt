-- How long lines are, and lines one after the other. Assumes nothing.
use mathlib.Core.Path.{◌≡◌, refl, sym, ◌∙◌, ap}
use mathlib.Core.List.{List, [], ◌∷◌, ◌++◌, append_assoc, append-nil}
use Prim.Native.Nat.{ℕ, zero, suc, ◌+◌, ◌*◌, ◌≤◌, ◌<◌}
use native.Mathlib.Numerals.{add-one}
use native.Mathlib.Omega.{arith}
use lib.ListN.{length, take, drop, get_or, length-append, length-take}
use lib.Seq.{take-suc}
use Rattle.plan_page.specs.Page.{space, line_end, decimal, spaced, line_of, words_of_row, lines_to}
use Rattle.plan_page.proofs.Digits.{decimal-few}

pub spaced-few : (row : List ℕ) → length (spaced row) ≤ 6 * length row
unfolding spaced
spaced-few [] = omega arith
spaced-few (w ∷ row) = omega (arith, length-append (decimal w) (spaced row), decimal-few w, spaced-few row)

spaced-append : (xs ys : List ℕ) → spaced (xs ++ ys) ≡ spaced xs ++ spaced ys
unfolding spaced
spaced-append [] ys = refl
spaced-append (x ∷ xs) ys =
    ap (λ (l : List ℕ). space ∷ (decimal x ++ l)) (spaced-append xs ys)
    ∙ ap (λ (l : List ℕ). space ∷ l) (sym (append_assoc (decimal x) (spaced xs) (spaced ys)))

-- one word more
pub spaced-more : (row : List ℕ) (j : ℕ) → j < length row → spaced (take (j + 1) row) ≡ spaced (take j row) ++ (space ∷ decimal (get_or row j 0))
unfolding spaced
spaced-more row j h =
    rw (add-one, take-suc row j 0 h, spaced-append)
    (ap (λ (l : List ℕ). spaced (take j row) ++ (space ∷ l)) (append-nil (decimal (get_or row j 0))))

pub spaced-none : spaced [] ≡ []
unfolding spaced
spaced-none = refl

pub line-few : (i : ℕ) (row : List ℕ) → length (line_of i row) ≤ 6 * (length row + 1)
unfolding line_of
line-few i row =
    omega (
      arith,
      length-append (decimal i) (spaced row ++ (line_end ∷ [])),
      length-append (spaced row) (line_end ∷ []),
      decimal-few i,
      spaced-few row,
    )

pub lines_none : (words : ℕ) (plan : List ℕ) → lines_to words plan 0 ≡ []
unfolding lines_to
lines_none words plan = refl

-- one line more
pub lines_more : (words : ℕ) (plan : List ℕ) (n : ℕ) → lines_to words plan (n + 1) ≡ lines_to words plan n ++ line_of n (words_of_row words plan n)
unfolding lines_to
lines_more words plan n = rw add-one

pub lines-few : (words : ℕ) (plan : List ℕ) (n : ℕ) → length (lines_to words plan n) ≤ n * (6 * (words + 1))
unfolding lines_to
lines-few words plan zero = omega arith
lines-few words plan (suc n) =
    let row = words_of_row words plan n in
    omega (arith, length-append (lines_to words plan n) (line_of n row), lines-few words plan n, line-few n row, length-take words (drop (n * words) plan))
