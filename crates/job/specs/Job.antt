-- A job, read from its row: "A job in the program carries its mode as one value" (document 01, Ranges and numbers that name things).
use Rattle.std.specs.Prelude.{ℕ, Result, Ok, Err}
use Rattle.row_words.specs.Flag.{flags_of}
use Rattle.row_words.specs.declared.mode.Mode.{Mode}
use Rattle.row_words.specs.declared.mode.Mode.TheVariants.{Paeth}
use Rattle.row_words.specs.declared.word.Word.TheVariants.{FlagWord, MaxWidth, MaxHeight}
use Rattle.block_spec.specs.declared.spec.IntraRefSpec.{IntraRefSpec}
use Rattle.job.specs.Row.{Row, word, spec_of, start_of}
use Rattle.job.specs.Mode.{row_mode}
use Rattle.job.specs.Rules.{row_answer}
use Rattle.job.specs.declared.job.Job.{Job}
use Rattle.numbers.specs.declared.answer.Refusal.{Refusal}
use Rattle.refusals.specs.Ladder.{yields}

-- a row that names no mode is refused by 3, so that what stands here for it is never used
abbrev pub mode_in : Result Mode Refusal → Mode
mode_in (Ok mode) = mode
mode_in (Err _) = Paeth

-- a job of this spec and mode, with the row's other words
abbrev pub job_with : IntraRefSpec → Mode → Row → Job
job_with s mode row = record {
  spec = s;
  mode = mode;
  flags = flags_of (word row FlagWord);
  max_width = word row MaxWidth;
  max_height = word row MaxHeight;
  start = start_of row;
}

abbrev pub job_of : Row → Job
job_of row = job_with (spec_of row) (mode_in (row_mode row)) row

-- the job, or the refusal of the first of the rules 1 to 7 that its row breaks
abbrev pub read_row : ℕ → ℕ → ℕ → Row → Result Job Refusal
read_row W H n row = yields (row_answer W H n row) (job_of row)
