-- The list that `ready_edge` leaves: what stands at each entry, and that each is a sample. Assumes nothing.
use mathlib.Core.Path.{◌≡◌, ◌∙◌, ap}
use mathlib.Core.Bool.{true}
use mathlib.Core.List.{List}
use Prim.Native.Nat.{ℕ, ◌-◌, ◌≤◌, ◌<◌, min}
use native.Mathlib.Omega.{arith}
use lib.ListN.{get_or}
use lib.IntN.{ℤ, pos}
use Rattle.signed.specs.Range.{inside, Edge}
use Rattle.lists.specs.Fill.{filled}
use Rattle.lists.proofs.Fill.{filled_at}
use Rattle.edge_filter.specs.Filter.{edge, padded, filtered}
use Rattle.edge_filter.proofs.Filtered.{filtered-inside}

pub ready_at : (n s lim size : ℕ) (k : ℤ) (es zs xs : List ℤ) → xs ≡ filled size (padded 4 n (filtered s lim n (edge k es))) zs
    → (j : ℕ) → j < size → get_or xs j (pos 0) ≡ padded 4 n (filtered s lim n (edge k es)) j
ready_at n s lim size k es zs xs e j h =
    ap (λ (l : List ℤ). get_or l j (pos 0)) e ∙ filled_at size (padded 4 n (filtered s lim n (edge k es))) zs j (pos 0) h

pub ready-inside : (v n s lim size : ℕ) (k : ℤ) (es zs xs : List ℤ) → s ≤ 3 → Edge v n es → inside (pos v) k ≡ true
    → xs ≡ filled size (padded 4 n (filtered s lim n (edge k es))) zs → Edge v size xs
ready-inside v n s lim size k es zs xs l p q e j h =
    rw (ready_at n s lim size k es zs xs e j h) (filtered-inside v n s lim k es (min n (j - 4)) l p q (omega arith))
