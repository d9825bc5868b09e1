-- What the rows work out, in ℕ, where nothing is negative. That these are the samples of document 01 is shown in `smooth_spec`.
use Rattle.std.specs.Prelude.{◌≡◌, List, ℕ, ◌+◌, ◌-◌, ◌*◌, ◌/◌, ◌^◌, ◌≤◌, ◌<◌, ℤ, pos, length, get_or}
use Rattle.signed.specs.Range.{Edge}

-- an entry of an edge
abbrev pub edge_at : List ℤ → ℕ → ℤ
edge_at edge i = get_or edge i (pos 0)

-- from x to y by w parts of m, rounded
unfoldable pub part : ℕ → ℕ → ℕ → ℕ → ℕ
part m x y w = (y * w + x * (m - w) + m / 2) / m

-- from e to t by w parts of m, and from there to t by v parts of 64
abbrev pub weighed : ℕ → ℕ → ℕ → ℕ → ℕ → ℕ
weighed m e t w v = part 64 (part m e t w) t v

-- the mean of two, rounded up
abbrev pub mean : ℕ → ℕ → ℕ
mean a b = (a + b + 1) / 2

-- what a step asks: samples of some depth, and parts of m = 2^k
pub record Step (e w m k : ℕ) : Type 0 where
  pub end : e ≤ 4095
  pub few : w ≤ m
  pub power : m ≡ 2 ^ k
  pub small : k ≤ 6

-- the first n entries of an edge are samples of some depth
pub record Entries (edge : List ℤ) (n : ℕ) : Type 0 where
  pub long : n ≤ length edge
  pub samples : Edge 4095 n edge

-- weights of n entries are parts of 64, and those from `reach` on are none
pub record Weights (weights : List ℕ) (n reach : ℕ) : Type 0 where
  pub long : n ≤ length weights
  pub within : reach ≤ n
  pub parts : (i : ℕ) → i < n → get_or weights i 0 < 64
  pub none : (i : ℕ) → reach ≤ i → i < n → get_or weights i 0 ≡ 0
