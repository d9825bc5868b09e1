-- Refusals 22 and 23 of an order (document 01, Refusal numbers, in order of checking).
use Rattle.std.specs.Prelude.{Bool, List, ℕ, ◌/◌, length}
use Rattle.numbers.specs.Limits.{row_words}
use Rattle.reorder.specs.Check.{once_b, kept_b}
use Rattle.job.specs.Row.{row_at}
use Rattle.touches.specs.Rects.{clash_of}

-- how many jobs a plan has: "A job is a row of sixteen 16-bit words"
abbrev pub jobs_in : List ℕ → ℕ
jobs_in plan = length plan / row_words

-- "the order does not hold each job's index once"
unfoldable pub is_once : List ℕ → List ℕ → Bool
is_once plan order = once_b (jobs_in plan) order

-- "the order turns a clashing pair round": over a plane of W by H samples, with n differences
unfoldable pub is_kept : ℕ → ℕ → ℕ → List ℕ → List ℕ → Bool
is_kept W H n plan order = kept_b (λ i j. clash_of W H n (row_at plan i) (row_at plan j)) (jobs_in plan) order
