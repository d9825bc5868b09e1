-- What reading and writing leave: "A refusal changes nothing lent." (document 01); a list longer than needed keeps its tail.
use Rattle.std.specs.Prelude.{List, ℕ, ◌*◌, length}
use Rattle.numbers.specs.Answer.{answer_number, Answer}
use Rattle.refusals.specs.Promise.{lent, Promise}
use Rattle.lists.specs.Fill.{filled}
use Rattle.block_image.specs.Image.{image_byte, image_size}
use Rattle.block_image.specs.Taken.{rows_of, word_at}
use Rattle.block_image.specs.declared.format.Format.{Format}
use Rattle.block_image.specs.Refusals.{file_answer, write_answer}

-- the two outputs that a call is lent: what it writes, and how many
pub record Outputs : Type 0 where
  pub list : List ℕ
  pub count : List ℕ

abbrev pub outputs : List ℕ → List ℕ → Outputs
outputs xs ns = record { list = xs; count = ns }

-- after a reading that is done: the plan's words at the start of the list, and the count of its rows
abbrev pub taken : Format → List ℕ → Outputs → Outputs
taken F bytes before =
    outputs (filled (rows_of F bytes * F.words) (word_at F bytes) before.list) (filled 1 (λ i. rows_of F bytes) before.count)

-- what reading answers
abbrev pub answer_read : Format → List ℕ → Outputs → Answer
answer_read F bytes before = file_answer F bytes (length before.list) (length before.count)

-- `read_plan`: its answer, and both outputs afterwards
abbrev pub ReadPlan : Format → List ℕ → Outputs → Outputs → Answer → Type 0
ReadPlan F bytes before after r = Promise (answer_read F bytes before) (lent (answer_read F bytes before) (taken F bytes before) before) r after

-- after a writing that is done: the plan's image at the start of the list, and the count of its bytes
abbrev pub put : Format → List ℕ → Outputs → Outputs
put F plan before =
    outputs (filled (image_size F plan) (image_byte F plan) before.list) (filled 1 (λ i. image_size F plan) before.count)

-- what writing answers
abbrev pub answer_write : Format → List ℕ → Outputs → Answer
answer_write F plan before = write_answer F plan (length before.list) (length before.count)

-- `write_plan`: its answer, and both outputs afterwards
abbrev pub WritePlan : Format → List ℕ → Outputs → Outputs → Answer → Type 0
WritePlan F plan before after r = Promise (answer_write F plan before) (lent (answer_write F plan before) (put F plan before) before) r after

-- both with the answer's number in the answer's place, as C is answered
abbrev pub ReadPlanC : Format → List ℕ → Outputs → Outputs → ℕ → Type 0
ReadPlanC F bytes before after r =
    Promise (answer_number (answer_read F bytes before)) (lent (answer_read F bytes before) (taken F bytes before) before) r after

abbrev pub WritePlanC : Format → List ℕ → Outputs → Outputs → ℕ → Type 0
WritePlanC F plan before after r =
    Promise (answer_number (answer_write F plan before)) (lent (answer_write F plan before) (put F plan before) before) r after
