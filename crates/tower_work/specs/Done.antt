-- One job of a tower's run done: its answer, and the three planes afterwards (document 02, request (v)).
use Rattle.std.specs.Prelude.{cond, List, ◌++◌, ℕ, ℤ, Float, length}
use Rattle.refusals.specs.Ladder.{Rule, ladder}
use Rattle.refusals.specs.Promise.{lent, Promise}
use Rattle.sides.specs.Read.{read_rules}
use Rattle.planes.specs.Three.{Three, plane_in, with_plane}
use Rattle.job.specs.Row.{Row, spec_of}
use Rattle.job_work.specs.Done.{job_done}
use Rattle.colour_job.specs.Answer.{colour_read_rules}
use Rattle.colour_job.specs.Done.{colour_done}
use Rattle.tower_words.specs.Limits.{luma_plane}
use Rattle.tower_job.specs.Row.{base_row, plane_of, is_colour_mode, colour_of_row}
use Rattle.tower_job.specs.Rules.{tower_rules}
use Rattle.numbers.specs.Answer.{Answer}

-- the plane that the job is on
abbrev pub own_plane : Row → Three Float → List Float
own_plane row planes = plane_in planes (plane_of row)

-- "8 in place of 13, and 14" in mode 5, 8 in the other modes
abbrev pub tower_read_rules : ℕ → Row → Three Float → List Rule
tower_read_rules W row planes =
    cond (is_colour_mode row)
    (colour_read_rules W (colour_of_row row) (plane_in planes luma_plane) (own_plane row planes))
    (read_rules (own_plane row planes) W (spec_of (base_row row)))

unfoldable pub tower_job_answer : ℕ → ℕ → ℕ → Row → Three Float → Answer
tower_job_answer W H n row planes = ladder (tower_rules W H n row ++ tower_read_rules W row planes)

-- the job's own plane afterwards: in modes 0 to 4 what the first library leaves of it
abbrev pub own_done : ℕ → ℕ → List ℤ → Row → Three Float → List Float
own_done W H differences row planes =
    cond (is_colour_mode row)
    (colour_done W (colour_of_row row) (plane_in planes luma_plane) (own_plane row planes))
    (job_done W H differences (base_row row) (own_plane row planes))

-- the three planes afterwards; a refused job writes nothing
unfoldable pub tower_done : ℕ → ℕ → List ℤ → Row → Three Float → Three Float
tower_done W H differences row planes =
    lent (tower_job_answer W H (length differences) row planes) (with_plane planes (plane_of row) (own_done W H differences row planes)) planes

-- what a job of a run promises of the planes before and after
abbrev pub TowerDone : ℕ → ℕ → List ℤ → Row → Three Float → Three Float → Answer → Type 0
TowerDone W H differences row planes planes' r =
    Promise (tower_job_answer W H (length differences) row planes) (tower_done W H differences row planes) r planes'
