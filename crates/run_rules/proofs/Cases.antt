-- Orders of three jobs on a plane of 16 by 4: "job order written backwards on two touching blocks, the right one reading the left: 23" (document 01, Numbers on paper),
-- and orders other than the plan's that are accepted. Assumes nothing.
use mathlib.Core.Path.{◌≡◌, refl}
use mathlib.Core.List.{List, [], ◌∷◌, ◌++◌}
use Prim.Native.Nat.{ℕ}
use Rattle.numbers.specs.Size.{is_size}
use Rattle.numbers.specs.Depth.{is_depth}
use Rattle.row_words.specs.Dir.{is_dir, is_delta}
use Rattle.row_words.specs.Flag.{is_set, no_stray}
use Rattle.numbers.specs.Answer.{is_done, done, Answer}
use Rattle.numbers.specs.declared.answer.Refusal.TheVariants.{NotEachOnce, PairTurned}
use Rattle.block_spec.specs.Rules.{is_plane, is_inside, is_reach, has_neighbours, is_base}
use Rattle.reorder.specs.Test.{all_below}
use Rattle.reorder.specs.Entry.{count, place}
use Rattle.reorder.specs.Rect.{clash_b, cross_b, meet_any_b, meet_b}
use Rattle.reorder.specs.Check.{once_b, kept_b}
use Rattle.row_words.specs.Mode.{named_mode}
use Rattle.job.specs.Mode.{row_mode, is_mode}
use Rattle.job.specs.Rules.{has_differences, row_answer, stands}
use Rattle.touches.specs.Rects.{reads_of, writes_of, clash_of}
use Rattle.order.specs.Rules.{is_once, is_kept}
use Rattle.run_rules.specs.Rules.{is_plan, run_answer}
use Rattle.std.specs.Prelude.{Err}

-- a block of side B with no neighbours, at column x; and one whose left neighbour is there
abbrev alone : ℕ → ℕ → List ℕ
alone x B = x ∷ 0 ∷ B ∷ 8 ∷ 0 ∷ 0 ∷ 0 ∷ 0 ∷ 0 ∷ 0 ∷ 0 ∷ 0 ∷ 128 ∷ 0 ∷ 0 ∷ 0 ∷ []

abbrev beside : ℕ → List ℕ
beside x = x ∷ 0 ∷ 4 ∷ 8 ∷ 0 ∷ 0 ∷ 0 ∷ 2 ∷ 0 ∷ 0 ∷ 0 ∷ 4 ∷ 0 ∷ 0 ∷ 0 ∷ 0 ∷ []

-- the left block has the side B; the third block touches neither
abbrev pub answer_of : ℕ → List ℕ → Answer
answer_of B order = run_answer 16 4 64 16 (alone 0 B ++ (beside 4 ++ alone 12 4)) order 3

-- the plan's own order; another; the touching pair turned round; a row twice; the same pair where the left block's side is 5, which fails 1 and
-- touches nothing
pub cases : (answer_of 4 (0 ∷ 1 ∷ 2 ∷ []) ∷ answer_of 4 (2 ∷ 0 ∷ 1 ∷ []) ∷ answer_of 4 (1 ∷ 0 ∷ 2 ∷ []) ∷ answer_of 4 (0 ∷ 0 ∷ 2 ∷ []) ∷ answer_of 5 (1 ∷ 0 ∷ 2 ∷ []) ∷ [])
    ≡ (done ∷ done ∷ Err PairTurned ∷ Err NotEachOnce ∷ done ∷ [])
unfolding run_answer is_plane is_plan is_once is_kept once_b kept_b all_below count place clash_of clash_b cross_b meet_any_b meet_b reads_of writes_of stands row_answer is_size is_depth is_mode row_mode named_mode is_dir is_delta no_stray is_set is_inside has_neighbours is_reach is_base has_differences is_done
cases = refl
