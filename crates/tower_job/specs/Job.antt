-- A job, read from its row: its mode is one value, which in mode 5 has the words of colour inside (document 02, request (v)).
use Rattle.std.specs.Prelude.{cond, ℕ, Result}
use Rattle.job.specs.Row.{Row}
use Rattle.job.specs.Job.{job_of}
use Rattle.tower_job.specs.Row.{base_row, plane_of, is_colour_mode, colour_of_row}
use Rattle.tower_job.specs.Rules.{tower_answer}
use Rattle.tower_job.specs.declared.tower.TowerMode.{TowerMode}
use Rattle.tower_job.specs.declared.tower.TowerMode.TheVariants.{Base, Colour}
use Rattle.tower_job.specs.declared.tower.TowerJob.{TowerJob}
use Rattle.numbers.specs.declared.answer.Refusal.{Refusal}
use Rattle.refusals.specs.Ladder.{yields}

-- modes 0 to 4 are the first library's, by its own definitions
abbrev pub tower_mode : Row → TowerMode
tower_mode row = cond (is_colour_mode row) (Colour (colour_of_row row)) (Base (job_of (base_row row)))

abbrev pub tower_job : Row → TowerJob
tower_job row = record { plane = plane_of row; mode = tower_mode row }

-- the job, or the refusal of the first rule before 8 that its row breaks
abbrev pub read_tower : ℕ → ℕ → ℕ → Row → Result TowerJob Refusal
read_tower W H n row = yields (tower_answer W H n row) (tower_job row)
