-- The plan's own order: entry k is k.
use Rattle.std.specs.Prelude.{Bool, List, ℕ, eqb, length, get_or}
use Rattle.reorder.specs.Test.{all_below}

unfoldable pub is_plan_order : List ℕ → Bool
is_plan_order order = all_below (length order) (λ k. eqb (get_or order k 0) k)
