-- "Two planes that agree on a job's read samples get the same answer and, if done, the same block": what is tested, the edges, the corner and each
-- written sample are the same. Assumes nothing.
use mathlib.Core.Path.{◌≡◌, refl, sym, ◌∙◌, ap}
use mathlib.Core.Bool.{Bool, true, false, cond, ◌&&◌}
use mathlib.Core.List.{List, [], ◌∷◌}
use Prim.Native.Nat.{ℕ, ◌+◌, ◌*◌, ◌<◌}
use lib.Dec.{ltb}
use lib.IntN.{ℤ, pos, ◌+ℤ◌}
use lib.Ieee.{Float, nan}
use lib.ListN.{get_or}
use borrow.Author.Tests.{ltb-true}
use Rattle.numbers.specs.Depth.{most}
use Rattle.row_words.specs.declared.word.Word.TheVariants.{Side, Bits}
use Rattle.numbers.specs.declared.answer.Refusal.TheVariants.{BadSample}
use Rattle.lists.specs.Block.{sample}
use Rattle.lists.proofs.Fill.{tab-same}
use Rattle.refusals.specs.Ladder.{◌else◌, ladder}
use Rattle.samples.specs.Sample.{is_sample, reading}
use Rattle.edge_line.specs.Edge.{entry_of}
use Rattle.edge_line.proofs.Every.{every-same}
use Rattle.block_spec.specs.Behind.{Behind, place, number, above_behind, left_behind, corner_behind}
use Rattle.sides.specs.Read.{behind_in_range, edge_read, all_read, read_rules}
use Rattle.sides.specs.Values.{value_of}
use Rattle.block_spec.specs.declared.spec.IntraRefSpec.{IntraRefSpec}
use Rattle.taps.specs.Interp.{clip}
use Rattle.job.specs.Row.{Row, word, spec_of}
use Rattle.job.specs.Rules.{stands, row_answer, job_answer}
use Rattle.job.specs.Job.{job_of}
use Rattle.touches.specs.Touches.{IsAt, Read, by-above, by_left, by-corner, Reads}
use Rattle.modes.specs.Predictor.{predictor_of}
use Rattle.job_work.specs.Written.{above_edge, left_edge, corner_entry, difference_at, written_at}
use Rattle.job.proofs.Stands.{answer-then}

-- of two functions that agree below 2B
entry-same : (B : ℕ) (f g : ℕ → ℤ) → ((i : ℕ) → i < 2 * B → f i ≡ g i) → (i : ℕ) → entry_of B f i ≡ entry_of B g i
entry-same B f g same i = go (ltb i (2 * B)) refl
  where
    go : (b : Bool) → ltb i (2 * B) ≡ b → cond b (f i) (pos 0) ≡ cond b (g i) (pos 0)
    go true e = same i (ltb-true i (2 * B) e)
    go false e = refl

module _ (W : ℕ) (a b : List Float) where
  -- the planes hold the same at the sample behind an entry
  abbrev Agree : Behind → Type 0
  Agree x = (p : ℕ) → IsAt W p x → get_or a p nan ≡ get_or b p nan

  value_same : (x : Behind) → Agree x → value_of W a x ≡ value_of W b x
  value_same (place r c) h = ap (λ v. pos (reading v)) (h (r * W + c) refl)
  value_same (number z) h = refl

  test-same : (M : ℕ) (x : Behind) → Agree x → behind_in_range M W a x ≡ behind_in_range M W b x
  test-same M (place r c) h = ap (is_sample (pos M)) (h (r * W + c) refl)
  test-same M (number z) h = refl

module _ (W : ℕ) (s : IntraRefSpec) (a b : List Float) (agree : (p : ℕ) → Read W s p → get_or a p nan ≡ get_or b p nan) where
  above_same : above_edge W s a ≡ above_edge W s b
  unfolding above_edge
  above_same = tab-same 128 _ _ (λ i h. entry-same s.b _ _ (λ c k. value_same W a b (above_behind s c) (λ p e. agree p (by-above c k e))) i)

  left-same : left_edge W s a ≡ left_edge W s b
  unfolding left_edge
  left-same = tab-same 128 _ _ (λ i h. entry-same s.b _ _ (λ c k. value_same W a b (left_behind s c) (λ p e. agree p (by_left c k e))) i)

  corner-same : corner_entry W s a ≡ corner_entry W s b
  unfolding corner_entry
  corner-same = value_same W a b (corner_behind s) (λ p e. agree p (by-corner e))

  read_same : all_read a W s ≡ all_read b W s
  unfolding all_read edge_read
  read_same =
      let t = every-same _ _ (2 * s.b) (λ c k. test-same W a b (most s.d) (above_behind s c) (λ p e. agree p (by-above c k e))) in
      let l = every-same _ _ (2 * s.b) (λ c k. test-same W a b (most s.d) (left_behind s c) (λ p e. agree p (by_left c k e))) in
      let k = test-same W a b (most s.d) (corner_behind s) (λ p e. agree p (by-corner e)) in
      λ j. (t j && l j) && k j

module _ (W H n : ℕ) (row : Row) (a b : List Float) (agree : (p : ℕ) → Reads W H n row p → get_or a p nan ≡ get_or b p nan) where
  pub answer-same : job_answer W H n row a ≡ job_answer W H n row b
  answer-same = answer-then W H n row a ∙ go (stands W H n row) refl ∙ sym (answer-then W H n row b)
    where
      go : (t : Bool) → stands W H n row ≡ t
          → cond t (ladder (read_rules a W (spec_of row))) (row_answer W H n row) ≡ cond t (ladder (read_rules b W (spec_of row))) (row_answer W H n row)
      go true e = ap (λ k. ladder (k else BadSample ∷ [])) (read_same W (spec_of row) a b (λ p r. agree p (e, r)))
      go false e = refl

  pub written_same : (differences : List ℤ) → stands W H n row ≡ true → (r c : ℕ)
      → written_at W differences (job_of row) a r c ≡ written_at W differences (job_of row) b r c
  unfolding written_at
  written_same differences e r c =
      let agreed : (p : ℕ) → Read W (spec_of row) p → get_or a p nan ≡ get_or b p nan = λ p q. agree p (e, q) in
      let t = above_same W (spec_of row) a b agreed in
      let l = left-same W (spec_of row) a b agreed in
      let k = corner-same W (spec_of row) a b agreed in
      λ j. sample (clip (pos (most (word row Bits))) (predictor_of (job_of row) (word row Side) (t j) (l j) (k j) r c +ℤ difference_at differences (job_of row) r c))
