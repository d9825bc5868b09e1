-- The theorem: an accepted order ends as the plan's own does, with the same picture and the same answers. Assumes nothing.
use mathlib.Core.Path.{◌≡◌, refl, ap, ◌∙◌}
use mathlib.Core.Logic.{◌≢◌}
use mathlib.Core.List.{List, [], ◌∷◌}
use Prim.Native.Nat.{ℕ, zero, suc, ◌+◌, ◌≤◌, ◌<◌}
use native.Mathlib.Decide.{ℕ_discrete}
use native.Mathlib.Omega.{arith}
use lib.Seq.{set_comm}
use Rattle.reorder.specs.Entry.{count, place, remove}
use Rattle.reorder.specs.Jobs.{Jobs, Laws, Clash}
use Rattle.reorder.specs.Order.{Sheet, do_row, run, up_from, Accepted}
use Rattle.reorder.proofs.Entry.{count_same, count-other, place_same, place_other, remove-same, remove-other, place-le, count-pos, count-remove-same, count-remove-other, place-remove}
use Rattle.reorder.proofs.Counts.{once-below}
use Rattle.reorder.proofs.Commute.{clash-sym, answer-free, step-comm}

module _ (J : Jobs) (L : Laws J) (row : ℕ → J.Job) where
  -- two rows that do not clash may change places
  swap : (x k : ℕ) → x ≢ k → ¬ (Clash J (row x) (row k)) → (st : Sheet J) → J.Fit st.pic
      → do_row J row k (do_row J row x st) ≡ do_row J row x (do_row J row k st)
  unfolding do_row
  swap x k d free st f =
      let free' : ¬ (Clash J (row k) (row x)) = λ c. free (clash-sym J (row k) (row x) c) in
      let ak : J.answer (row k) (J.step (row x) st.pic) ≡ J.answer (row k) st.pic = answer-free J L (row x) (row k) free st.pic f in
      let ax : J.answer (row x) (J.step (row k) st.pic) ≡ J.answer (row x) st.pic = answer-free J L (row k) (row x) free' st.pic f in
      let pics : J.step (row k) (J.step (row x) st.pic) ≡ J.step (row x) (J.step (row k) st.pic) = step-comm J L (row x) (row k) free st.pic f in
      rw (ak, ax, pics, set_comm st.answers x k (J.answer (row x) st.pic) (J.answer (row k) st.pic) d)

  -- a row may be done first if it clashes with none that stands before it
  first : (k : ℕ) (l : List ℕ) → zero < count k l → ((x : ℕ) → place x l < place k l → ¬ (Clash J (row x) (row k)))
      → (st : Sheet J) → J.Fit st.pic → run J row l st ≡ run J row (k ∷ remove k l) st
  unfolding run do_row count
  first k [] c free st f = absurd (omega arith)
  first k (x ∷ xs) c free st f = elim (ℕ_discrete x k) [
    | yes e ↦ rw (remove-same xs e, e)
    | no ne ↦
        let later : (y : ℕ) → place y xs < place k xs → ¬ (Clash J (row y) (row k)) =
        λ y h. free y (rw (place_other xs ne) (omega (arith, place-cons y))) in
        rw (remove-other xs ne)
        (first k xs (rw (count-other xs ne) at c) later (do_row J row x st) (L.fits (row x) st.pic f)
        ∙ ap (run J row (remove k xs)) (swap x k ne (free x (rw (place_other xs ne, place_same {i = x} xs refl) (omega arith))) st f))
  ]
    where
      place-cons : (y : ℕ) → place y (x ∷ xs) ≤ suc (place y xs)
      place-cons y = elim (ℕ_discrete x y) [ yes e ↦ rw (place_same xs e) (omega arith) | no ne ↦ rw (place_other xs ne) (omega arith) ]

  -- what is left of an accepted order when the rows below k are done: the m rows from k on, each once, the clashing pairs as in the plan
  record Rest (k m : ℕ) (l : List ℕ) : Type 0 where
    each : (i : ℕ) → k ≤ i → i < k + m → count i l ≡ 1
    only : (x : ℕ) → zero < count x l → (k ≤ x) × (x < k + m)
    kept : (i j : ℕ) → k ≤ i → i < j → j < k + m → Clash J (row i) (row j) → place i l < place j l

  rest-next : (k m : ℕ) (l : List ℕ) → Rest k (suc m) l → Rest (suc k) m (remove k l)
  rest-next k m l r = record {
    each = λ i h h'. count-remove-other i k l (omega arith) ∙ r.each i (omega arith) (omega arith);
    only = λ x c. elim (ℕ_discrete x k) [
      | yes e ↦ absurd (omega (arith, rw e at c, gone))
      | no ne ↦ let w : (k ≤ x) × (x < k + suc m) = r.only x (rw (count-remove-other x k l ne) at c) in omega arith
    ];
    kept = λ i j h h' h'' cl. place-remove i j k l (omega arith) (omega arith) (r.kept i j (omega arith) h' (omega arith) cl);
  }
    where
      one : count k l ≡ 1
      one = r.each k (omega arith) (omega arith)

      gone : count k (remove k l) ≡ zero
      gone = omega (arith, count-remove-same k l (omega (arith, one)), one)

  -- nothing that stands before the lowest row clashes with it
  rest-free : (k m : ℕ) (l : List ℕ) → Rest k (suc m) l → (x : ℕ) → place x l < place k l → ¬ (Clash J (row x) (row k))
  rest-free k m l r x h cl =
      let w : (k ≤ x) × (x < k + suc m) = r.only x (count-pos x l (omega (arith, place-le k l))) in
      elim (ℕ_discrete x k) [
        | yes e ↦ omega (arith, rw e at h)
        | no ne ↦ omega (arith, r.kept k x (omega arith) (omega arith) w.1 (clash-sym J (row x) (row k) cl))
      ]

  rest-run : (m k : ℕ) (l : List ℕ) → Rest k m l → (st : Sheet J) → J.Fit st.pic → run J row l st ≡ run J row (up_from k m) st
  unfolding run up_from do_row
  rest-run zero k [] r st f = refl
  rest-run zero k (x ∷ xs) r st f = absurd (let w : (k ≤ x) × (x < k + zero) = r.only x (omega (arith, count_same {i = x} xs refl)) in omega arith)
  rest-run (suc m) k l r st f =
      first k l (omega (arith, r.each k (omega arith) (omega arith))) (rest-free k m l r) st f
      ∙ rest-run m (suc k) (remove k l) (rest-next k m l r) (do_row J row k st) (L.fits (row k) st.pic f)

  -- THE THEOREM. An accepted order ends with the picture and the answers of the plan's own order.
  pub reorder : (n : ℕ) (order : List ℕ) → Accepted J row n order
      → (st : Sheet J) → J.Fit st.pic → run J row order st ≡ run J row (up_from 0 n) st
  reorder n order a st f = rest-run n 0 order whole st f
    where
      whole : Rest 0 n order
      whole = record {
        each = λ i h h'. a.once.each i (omega arith);
        only = λ x c. omega (arith, once-below n order a.once x c);
        kept = λ i j h h' h'' cl. a.kept i j h' (omega arith) cl;
      }
