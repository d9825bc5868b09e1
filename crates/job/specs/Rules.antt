-- "then each job 1 to 7 and 8" (document 01, Refusal numbers, in order of checking).
use Rattle.std.specs.Prelude.{Bool, List, [], ◌∷◌, ◌++◌, ℕ, ◌+◌, ◌*◌, leb, Float}
use Rattle.numbers.specs.Answer.{is_done, Answer}
use Rattle.row_words.specs.declared.word.Word.TheVariants.{Side}
use Rattle.numbers.specs.declared.answer.Refusal.TheVariants.{BadMode, NoDifferences}
use Rattle.refusals.specs.Ladder.{Rule, ◌else◌, ladder}
use Rattle.block_spec.specs.Rules.{size_rules, place_rules}
use Rattle.sides.specs.Read.{read_rules}
use Rattle.job.specs.Row.{Row, word, spec_of, start_of}
use Rattle.job.specs.Mode.{is_mode}

-- "the B x B differences (16-bit signed) pass their list's end", which has n entries
unfoldable pub has_differences : ℕ → Row → Bool
has_differences n row = leb (start_of row + word row Side * word row Side) n

-- "then each job 1 to 7", by the row and the sizes alone: a plane of W by H samples, n differences
abbrev pub row_rules : ℕ → ℕ → ℕ → Row → List Rule
row_rules W H n row =
    size_rules (spec_of row) ++
    is_mode row else BadMode ∷
    place_rules W H (spec_of row) ++
    has_differences n row else NoDifferences ∷ []

unfoldable pub row_answer : ℕ → ℕ → ℕ → Row → Answer
row_answer W H n row = ladder (row_rules W H n row)

-- the job does not fail 1 to 7
unfoldable pub stands : ℕ → ℕ → ℕ → Row → Bool
stands W H n row = is_done (row_answer W H n row)

-- ".. and 8"
unfoldable pub job_answer : ℕ → ℕ → ℕ → Row → List Float → Answer
job_answer W H n row plane = ladder (row_rules W H n row ++ read_rules plane W (spec_of row))
