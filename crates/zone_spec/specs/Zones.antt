-- "Below 90 zone 1, to 180 zone 2, beyond zone 3. .. Positions, padding and fill as in `z1`, `z2`, `z3`." (document 01, Directions): one sample at
-- a time, w and h apart. An edge is a function of the place: 0 the corner, then its entries; n is its last place.
use Rattle.std.specs.Prelude.{ℕ, ◌+◌, ◌-◌, ◌*◌, ◌/◌, Bool, cond, leb, ltb, ℤ}
use Rattle.taps.specs.Interp.{between}
use Rattle.edge_filter.specs.Filter.{padded}

-- the sample at q 64ths from the corner, along an edge with its ends repeated: past the last place it is that place's entry
unfoldable pub sample_along : Bool → ℤ → ℕ → (ℕ → ℤ) → ℕ → ℤ
sample_along lum M n e q = cond (ltb n (q / 64)) (e n) (between lum M (padded 1 n e) q)

-- zone 1 goes along the edge above: from entry c, by a step for each row down to r
abbrev pub zone1 : Bool → ℤ → ℕ → ℕ → (ℕ → ℤ) → ℕ → ℕ → ℤ
zone1 lum M n dx above r c = sample_along lum M n above (64 * (c + 1) + (r + 1) * dx)

-- zone 3 is zone 1 along the left edge, with rows for columns
abbrev pub zone3 : Bool → ℤ → ℕ → ℕ → (ℕ → ℤ) → ℕ → ℕ → ℤ
zone3 lum M n dy left r c = zone1 lum M n dy left c r

-- from entry c back along an edge, by a step for each row down to r
abbrev pub back_along : Bool → ℤ → ℕ → ℕ → (ℕ → ℤ) → ℕ → ℕ → ℤ
back_along lum M n dx e r c = between lum M (padded 1 n e) (64 * (c + 1) - (r + 1) * dx)

-- zone 2 goes back along the edge above, and where that leads past the corner's place, back along the left edge, with rows for columns
unfoldable pub zone2 : Bool → ℤ → ℕ → ℕ → ℕ → ℕ → (ℕ → ℤ) → (ℕ → ℤ) → ℕ → ℕ → ℤ
zone2 lum M w h dx dy above left r c =
    cond (leb ((r + 1) * dx) (64 * (c + 1))) (back_along lum M w dx above r c) (back_along lum M h dy left c r)
