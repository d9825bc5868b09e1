-- "The 3 x 64 `SM_WEIGHTS` table is copied; its rule is shown over all 192 entries": by one test that antt computes, and a lemma to each entry.
-- A second test shows from where on a scale has no weights. Assumes nothing.
use mathlib.Core.Path.{◌≡◌, sym, ◌∙◌}
use mathlib.Core.Bool.{Bool, true, cond}
use mathlib.Core.List.{List, [], ◌∷◌}
use Prim.Native.Nat.{ℕ, ◌*◌, ◌/◌, ◌^◌, min, ◌≤◌, ◌<◌}
use native.Mathlib.Nat.{div-le_self}
use native.Mathlib.Omega.{arith}
use lib.Dec.{T, eqb, leb, eqb→eq}
use lib.ListN.{length, get_or}
use lib.Seq.{ext_get_or}
use borrow.Author.Tests.{le-leb}
use Rattle.lists.specs.Fill.{tab}
use Rattle.lists.proofs.Fill.{length-tab, tab-at}
use Rattle.lists.proofs.Table.{at, at2}
use Rattle.smooth_weights.specs.Weights.{weight}
use Rattle.smooth_weights.specs.Reach.{reach_of}

abbrev pub table : List (List ℕ)
table =
    (32 ∷ 8 ∷ 2 ∷ 0 ∷ 0 ∷ 0 ∷ 0 ∷ 0 ∷ 0 ∷ 0 ∷ 0 ∷ 0 ∷ 0 ∷ 0 ∷ 0 ∷ 0 ∷ 0 ∷ 0 ∷ 0 ∷ 0 ∷ 0 ∷ 0 ∷ 0 ∷ 0 ∷ 0 ∷ 0 ∷ 0 ∷ 0 ∷ 0 ∷ 0 ∷ 0 ∷ 0 ∷
    0 ∷ 0 ∷ 0 ∷ 0 ∷ 0 ∷ 0 ∷ 0 ∷ 0 ∷ 0 ∷ 0 ∷ 0 ∷ 0 ∷ 0 ∷ 0 ∷ 0 ∷ 0 ∷ 0 ∷ 0 ∷ 0 ∷ 0 ∷ 0 ∷ 0 ∷ 0 ∷ 0 ∷ 0 ∷ 0 ∷ 0 ∷ 0 ∷ 0 ∷ 0 ∷ 0 ∷ 0 ∷ []) ∷
    (32 ∷ 16 ∷ 8 ∷ 4 ∷ 2 ∷ 1 ∷ 0 ∷ 0 ∷ 0 ∷ 0 ∷ 0 ∷ 0 ∷ 0 ∷ 0 ∷ 0 ∷ 0 ∷ 0 ∷ 0 ∷ 0 ∷ 0 ∷ 0 ∷ 0 ∷ 0 ∷ 0 ∷ 0 ∷ 0 ∷ 0 ∷ 0 ∷ 0 ∷ 0 ∷ 0 ∷ 0 ∷
    0 ∷ 0 ∷ 0 ∷ 0 ∷ 0 ∷ 0 ∷ 0 ∷ 0 ∷ 0 ∷ 0 ∷ 0 ∷ 0 ∷ 0 ∷ 0 ∷ 0 ∷ 0 ∷ 0 ∷ 0 ∷ 0 ∷ 0 ∷ 0 ∷ 0 ∷ 0 ∷ 0 ∷ 0 ∷ 0 ∷ 0 ∷ 0 ∷ 0 ∷ 0 ∷ 0 ∷ 0 ∷ []) ∷
    (32 ∷ 32 ∷ 16 ∷ 16 ∷ 8 ∷ 8 ∷ 4 ∷ 4 ∷ 2 ∷ 2 ∷ 1 ∷ 1 ∷ 0 ∷ 0 ∷ 0 ∷ 0 ∷ 0 ∷ 0 ∷ 0 ∷ 0 ∷ 0 ∷ 0 ∷ 0 ∷ 0 ∷ 0 ∷ 0 ∷ 0 ∷ 0 ∷ 0 ∷ 0 ∷ 0 ∷ 0 ∷
    0 ∷ 0 ∷ 0 ∷ 0 ∷ 0 ∷ 0 ∷ 0 ∷ 0 ∷ 0 ∷ 0 ∷ 0 ∷ 0 ∷ 0 ∷ 0 ∷ 0 ∷ 0 ∷ 0 ∷ 0 ∷ 0 ∷ 0 ∷ 0 ∷ 0 ∷ 0 ∷ 0 ∷ 0 ∷ 0 ∷ 0 ∷ 0 ∷ 0 ∷ 0 ∷ 0 ∷ 0 ∷ []) ∷ []

-- entry i of row s is the weight i of the scale s
right : ℕ → ℕ → ℕ → Bool
right s i x = eqb x (weight s i)

pub table_at : (s i : ℕ) → s < 3 → i < 64 → get_or (get_or table s []) i 0 ≡ weight s i
unfolding right weight
table_at s i hs hi = eqb→eq (get_or (get_or table s []) i 0) (weight s i) (at2 0 right 64 table tt s i hs hi)

row-long : (s : ℕ) → s < 3 → length (get_or table s []) ≡ 64
row-long s h = eqb→eq (length (get_or table s [])) 64 (at [] (λ i xs. eqb (length xs) 64) table tt s h)

-- a row is its scale's weights
pub table-row : (s : ℕ) → s < 3 → get_or table s [] ≡ tab 64 (weight s)
table-row s h =
    ext_get_or 0 (get_or table s []) (tab 64 (weight s)) (row-long s h ∙ sym (length-tab 64 (weight s)))
    (λ i l. let k : i < 64 = omega (arith, row-long s h) in table_at s i h k ∙ sym (tab-at 64 (weight s) i 0 k))

-- ---- how large the weights are
pub weight-most : (s i : ℕ) → weight s i < 64
unfolding weight
weight-most s i = omega (arith, div-le_self 32 (2 ^ min 6 (2 * i / 2 ^ s)))

-- past the columns that a scale reaches there are none
ended : ℕ → ℕ → ℕ → Bool
ended s i x = cond (leb (reach_of s) i) (eqb x 0) true

pub weight-none : (s i : ℕ) → s < 3 → reach_of s ≤ i → i < 64 → weight s i ≡ 0
unfolding ended
weight-none s i hs l hi =
    let x = get_or (get_or table s []) i 0 in
    let t : T (eqb x 0) = rw (le-leb (reach_of s) i l) at (at2 0 ended 64 table tt s i hs hi) in
    sym (table_at s i hs hi) ∙ eqb→eq x 0 t
