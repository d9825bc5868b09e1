-- What a job that does not fail 1 to 7 can count on, and how its answer goes on from there. Assumes nothing.
use mathlib.Core.Path.{◌≡◌, refl, sym, ◌∙◌, ap}
use mathlib.Core.Bool.{Bool, true, false, cond}
use mathlib.Core.List.{List, [], ◌∷◌, ◌++◌}
use Prim.Native.Nat.{ℕ}
use lib.Ieee.{Float}
use Rattle.numbers.specs.Answer.{is_done}
use Rattle.numbers.specs.declared.answer.Refusal.TheVariants.{BadMode, NoDifferences}
use Rattle.refusals.specs.Ladder.{◌else◌, ladder}
use Rattle.refusals.proofs.Ladder.{all_of, kept_append, ladder-append}
use Rattle.block_spec.specs.Rules.{size_rules, place_rules}
use Rattle.sides.specs.Read.{read_rules}
use Rattle.block_spec.specs.Placed.{Standing}
use Rattle.block_spec.proofs.Placed as edges
use Rattle.job.specs.Row.{Row, spec_of}
use Rattle.job.specs.Mode.{is_mode}
use Rattle.job.specs.Rules.{has_differences, row_rules, row_answer, stands, job_answer}

module _ (W H n : ℕ) (row : Row) where
  -- the rules 1 to 7 are kept
  pub row_kept : stands W H n row ≡ true → Standing W H (spec_of row) × (has_differences n row ≡ true)
  unfolding stands row_answer
  row_kept e =
      let last = has_differences n row else NoDifferences ∷ [] in
      let sizes = kept_append (size_rules (spec_of row)) (is_mode row else BadMode ∷ (place_rules W H (spec_of row) ++ last)) (all_of (row_rules W H n row) e) in
      let places = kept_append (place_rules W H (spec_of row)) last sizes.1.1 in
      (edges.standing W H (spec_of row) sizes.0 places.0, places.1.0)

  pub standing : stands W H n row ≡ true → Standing W H (spec_of row)
  standing e = (row_kept e).0

  module _ (plane : List Float) where
    -- 1 to 7, and then 8
    pub answer-then : job_answer W H n row plane ≡ cond (stands W H n row) (ladder (read_rules plane W (spec_of row))) (row_answer W H n row)
    unfolding job_answer stands row_answer
    answer-then = ladder-append (row_rules W H n row) (read_rules plane W (spec_of row))

    -- by whether the job stands
    pub answer-by : (b : Bool) → stands W H n row ≡ b → job_answer W H n row plane ≡ cond b (ladder (read_rules plane W (spec_of row))) (row_answer W H n row)
    answer-by b e = answer-then ∙ ap (λ b. cond b (ladder (read_rules plane W (spec_of row))) (row_answer W H n row)) e

    -- a job that is done does not fail 1 to 7
    pub done-stands : is_done (job_answer W H n row plane) ≡ true → stands W H n row ≡ true
    unfolding stands
    done-stands e = go (stands W H n row) refl
      where
        go : (b : Bool) → stands W H n row ≡ b → stands W H n row ≡ true
        go true q = q
        go false q = sym (ap is_done (answer-by false q)) ∙ e
