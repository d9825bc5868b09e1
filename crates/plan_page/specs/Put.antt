-- A text put into a lent list from a place on.
use Rattle.std.specs.Prelude.{◌≡◌, List, ◌++◌, ℕ, ◌+◌, length, take, drop}

-- the text stands after the first `at` bytes, which are as they were, and r is the place after it; what stands from there on is as it was
pub record Put (text : List ℕ) (at : ℕ) (before : List ℕ) (r : ℕ) (after : List ℕ) : Type 0 where
  pub there : take r after ≡ take at before ++ text
  pub ends : r ≡ at + length text
  pub rest : drop r after ≡ drop r before
