-- "then + 8, >> 4, ends repeated, limits as in `filter_edge`." (document 01, Directions)
-- An edge is a function of the place: 0 the corner, then its entries 0, 1, .. at the places 1, 2, ..; n is its last place.
use Rattle.std.specs.Prelude.{ℕ, zero, suc, ◌-◌, min, cond, ◌&&◌, List, leb, ltb, get_or, ℤ, pos}
use Rattle.kernels.specs.Kernel.{kernel, five}

-- the list [corner, e0, e1, ..]
unfoldable pub edge : ℤ → List ℤ → ℕ → ℤ
edge k es zero = k
edge k es (suc i) = get_or es i (pos 0)

-- "ends repeated": the edge as a list that starts l entries early. Entry k is place k - l, moved to the nearer end
abbrev pub padded : ℕ → ℕ → (ℕ → ℤ) → ℕ → ℤ
padded l n e k = e (min n (k - l))

-- place i by the kernel of the strength s: the five places about it are the entries i .. i + 4 of the list that starts two early
abbrev pub blurred : ℕ → ℕ → (ℕ → ℤ) → ℕ → ℤ
blurred s n e i = five (kernel s 0) (kernel s 1) (kernel s 2) (kernel s 3) (kernel s 4) (padded 2 n e) i

-- "limits as in `filter_edge`": the places 1 <= i < lim are filtered, and none by the strength 0
unfoldable pub filtered : ℕ → ℕ → ℕ → (ℕ → ℤ) → ℕ → ℤ
filtered s lim n e i = cond (leb 1 s && (leb 1 i && ltb i lim)) (blurred s n e i) (e i)
