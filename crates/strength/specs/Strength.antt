-- "Filter strength by 2B and distance d of the angle from its edge's own axis (90 for above, 180 for left)." (document 01, Directions; the cases
-- between 16 and 24 are the source's, and no block of the five sizes has them)
use Rattle.std.specs.Prelude.{ℕ, Bool, cond, leb}

-- "Plain: 8: d>=56 1. 16: d>=40 1. 32: d>=32 3, >=4 2, >=1 1. Over 32: d>=1 3."
unfoldable pub plain_strength : ℕ → ℕ → ℕ
plain_strength wh d =
    cond (leb wh 8) (cond (leb 56 d) 1 0)
    (cond (leb wh 16) (cond (leb 40 d) 1 0)
    (cond (leb wh 24) (cond (leb 32 d) 3 (cond (leb 16 d) 2 (cond (leb 8 d) 1 0)))
    (cond (leb wh 32) (cond (leb 32 d) 3 (cond (leb 4 d) 2 (cond (leb 1 d) 1 0)))
    (cond (leb 1 d) 3 0))))

-- "Smooth neighbour: 8: >=64 2, >=40 1. 16: >=48 2, >=20 1. Over 24: >=1 3."
unfoldable pub softer_strength : ℕ → ℕ → ℕ
softer_strength wh d =
    cond (leb wh 8) (cond (leb 64 d) 2 (cond (leb 40 d) 1 0))
    (cond (leb wh 16) (cond (leb 48 d) 2 (cond (leb 20 d) 1 0))
    (cond (leb wh 24) (cond (leb 4 d) 3 0)
    (cond (leb 1 d) 3 0)))

-- 0 where the edge filter is not set: it filters nothing
unfoldable pub strength : Bool → Bool → ℕ → ℕ → ℕ
strength filter smooth wh d = cond filter (cond smooth (softer_strength wh d) (plain_strength wh d)) 0
