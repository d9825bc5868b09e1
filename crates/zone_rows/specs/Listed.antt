-- What the code's rows hold: an edge is a list there, that starts four entries before the corner's own, so that a strip of four rows has its entries.
use Rattle.std.specs.Prelude.{◌≡◌, ℕ, ◌+◌, ◌*◌, ◌/◌, ◌≤◌, ◌<◌, Bool, List, ℤ, pos, length, get_or}
use Rattle.signed.specs.Range.{Edge}
use Rattle.taps.specs.Interp.{between}

-- the sample at q 64ths from the corner
abbrev pub listed : Bool → ℤ → List ℤ → ℕ → ℤ
listed lum M xs q = between lum M (λ k. get_or xs k (pos 0)) (q + 192)

-- zone 1's, and zone 3's with rows for columns
abbrev pub ahead : Bool → ℤ → ℕ → List ℤ → ℕ → ℕ → ℤ
ahead lum M dx xs r c = listed lum M xs (64 * (c + 1) + (r + 1) * dx)

-- a list has n entries that are samples
abbrev pub Holds : ℕ → List ℤ → Type 0
Holds n xs = (n ≤ length xs) × Edge 4095 n xs

-- a side of at most 64, in strips of four
abbrev pub Fours : ℕ → Type 0
Fours B = (0 < B) × (B ≤ 64) × (4 * (B / 4) ≡ B)
