-- How the answer of a tower's job goes on after the rules by its row, and what it is by the job's mode. Assumes nothing.
use mathlib.Core.Path.{◌≡◌, refl, sym, ◌∙◌, ap}
use mathlib.Core.Bool.{Bool, true, false, cond}
use mathlib.Core.List.{List, ◌++◌}
use Prim.Native.Nat.{ℕ}
use lib.Ieee.{Float}
use Rattle.numbers.specs.Answer.{is_done}
use Rattle.refusals.specs.Ladder.{Rule, ladder}
use Rattle.refusals.proofs.Ladder.{ladder-append}
use Rattle.sides.specs.Read.{read_rules}
use Rattle.planes.specs.Three.{Three, plane_in}
use Rattle.job.specs.Row.{Row, spec_of}
use Rattle.job.specs.Rules.{job_answer}
use Rattle.colour_job.specs.Answer.{colour_read_rules, colour_answer}
use Rattle.tower_words.specs.Limits.{luma_plane}
use Rattle.tower_job.specs.Row.{base_row, is_colour_mode, colour_of_row}
use Rattle.tower_job.specs.Tests.{is_tower}
use Rattle.tower_job.specs.Rules.{base_rules, colour_rules, tower_rules, tower_answer, tower_stands}
use Rattle.tower_work.specs.Done.{own_plane, tower_read_rules, tower_job_answer}

module _ (W H n : ℕ) (row : Row) where
  module _ (planes : Three Float) where
    -- the rules by the row, and then those of what is read
    pub tower-then : tower_job_answer W H n row planes ≡ cond (tower_stands W H n row) (ladder (tower_read_rules W row planes)) (tower_answer W H n row)
    unfolding tower_job_answer tower_stands tower_answer
    tower-then = ladder-append (tower_rules W H n row) (tower_read_rules W row planes)

    -- by whether the job stands
    pub tower-by : (b : Bool) → tower_stands W H n row ≡ b
        → tower_job_answer W H n row planes ≡ cond b (ladder (tower_read_rules W row planes)) (tower_answer W H n row)
    tower-by b e = tower-then ∙ ap (λ b. cond b (ladder (tower_read_rules W row planes)) (tower_answer W H n row)) e

    -- a job that is done stands
    pub tower-done-stands : is_done (tower_job_answer W H n row planes) ≡ true → tower_stands W H n row ≡ true
    unfolding tower_stands
    tower-done-stands e = go (tower_stands W H n row) refl
      where
        go : (b : Bool) → tower_stands W H n row ≡ b → tower_stands W H n row ≡ true
        go true q = q
        go false q = sym (ap is_done (tower-by false q)) ∙ e

    -- what is tested of what is read, by whether the mode is 5
    abbrev tests_by : Bool → List Rule
    tests_by b =
        cond b
        (colour_read_rules W (colour_of_row row) (plane_in planes luma_plane) (own_plane row planes))
        (read_rules (own_plane row planes) W (spec_of (base_row row)))

    -- modes 0 to 4: the first library's answer to the first sixteen words, on the job's plane
    pub tower-base-answer : is_colour_mode row ≡ false → is_tower row ≡ true
        → tower_job_answer W H n row planes ≡ job_answer W H n (base_row row) (own_plane row planes)
    unfolding tower_job_answer job_answer
    tower-base-answer m e = ap (λ b. ladder (cond b (colour_rules W H row) (base_rules W H n row) ++ tests_by b)) m ∙ rw e

    -- mode 5, where the rules by the row are kept
    pub tower-colour-answer : is_colour_mode row ≡ true → tower_stands W H n row ≡ true
        → tower_job_answer W H n row planes ≡ colour_answer W (colour_of_row row) (plane_in planes luma_plane) (own_plane row planes)
    unfolding colour_answer
    tower-colour-answer m e = tower-by true e ∙ ap (λ b. ladder (tests_by b)) m
