-- A rectangle of a plane that is written.
use Rattle.std.specs.Prelude.{cond, List, ℕ, ◌-◌, ◌/◌, ◌%◌, Float, length, get_or}
use Rattle.std.specs.Float.{nan}
use Rattle.lists.specs.Fill.{tab}
use Rattle.reorder.specs.Rect.{Rect, in_b}

-- a plane of rows of W samples in which a rectangle is written: f's at row and column of the rectangle, and all others as they were
unfoldable pub painted : ℕ → Rect → (ℕ → ℕ → Float) → List Float → List Float
painted W R f plane = tab (length plane) (λ p. cond (in_b W R p) (f (p / W - R.y) (p % W - R.x)) (get_or plane p nan))
