-- Refusals 22 and 23 of an order of a tower's plan (document 01, Refusal numbers, in order of checking; document 02, request (v)).
use Rattle.std.specs.Prelude.{Bool, List, ℕ, ◌/◌, length}
use Rattle.reorder.specs.Check.{once_b, kept_b}
use Rattle.tower_words.specs.Limits.{tower_words}
use Rattle.tower_job.specs.Row.{tower_row}
use Rattle.tower_touches.specs.Rects.{tower_clash}

-- how many jobs a plan has: "The job row gains sixteen words"
abbrev pub tower_jobs_in : List ℕ → ℕ
tower_jobs_in plan = length plan / tower_words

-- "the order does not hold each job's index once"
unfoldable pub is_tower_once : List ℕ → List ℕ → Bool
is_tower_once plan order = once_b (tower_jobs_in plan) order

-- "the order turns a clashing pair round": "clash, read, write and demand 3 span all three planes", which are W by H, with n differences
unfoldable pub is_tower_kept : ℕ → ℕ → ℕ → List ℕ → List ℕ → Bool
is_tower_kept W H n plan order = kept_b (λ i j. tower_clash W H n (tower_row plan i) (tower_row plan j)) (tower_jobs_in plan) order
