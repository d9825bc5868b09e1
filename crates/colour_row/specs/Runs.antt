-- Two runs of luma that give a row of n samples: the direction's and the centre's.
use Rattle.std.specs.Prelude.{ℕ, ◌+◌, ◌≤◌, ◌<◌, List, ℤ, pos, length, get_or}
use Rattle.colour_row.specs.Mixed.{Luma}
use Rattle.colour_row.specs.declared.mix.Mix.{Mix}

abbrev pub at : List ℤ → ℕ → ℤ
at luma i = get_or luma i (pos 0)

-- as two lists
pub record Runs (k : Mix) (near centre : List ℤ) (n : ℕ) : Type 0 where
  pub near-long : n ≤ length near
  pub centre-long : n ≤ length centre
  pub near-in : (i : ℕ) → i < n → Luma k (at near i)
  pub centre-in : (i : ℕ) → i < n → Luma k (at centre i)

-- as parts of one list, which start at near and at centre
pub record RunsAt (k : Mix) (luma : List ℤ) (near centre n : ℕ) : Type 0 where
  pub near-long : near + n ≤ length luma
  pub centre-long : centre + n ≤ length luma
  pub near-in : (i : ℕ) → i < n → Luma k (at luma (near + i))
  pub centre-in : (i : ℕ) → i < n → Luma k (at luma (centre + i))
