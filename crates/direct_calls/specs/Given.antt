-- What every block function is given, in one shape: a size, edges of 2B entries and a corner in 0..M, and an output of B x B entries or more.
use Rattle.std.specs.Prelude.{◌≡◌, true, List, ℕ, ◌*◌, ◌≤◌, ℤ, pos, length}
use Rattle.numbers.specs.Size.{is_size}
use Rattle.signed.specs.Range.{inside, Edge}

-- the edges above and left, the corner k, an output with n entries
pub record Given (B M : ℕ) (above left : List ℤ) (k : ℤ) (n : ℕ) : Type 0 where
  pub size : is_size B ≡ true
  pub above-long : 2 * B ≤ length above
  pub left-long : 2 * B ≤ length left
  pub out-long : B * B ≤ n
  pub above_in : Edge M (2 * B) above
  pub left_in : Edge M (2 * B) left
  pub corner-in : inside (pos M) k ≡ true
