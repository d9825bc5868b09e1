-- The runs of a job that stands: a sample is in one of them exactly when it stands behind an entry of an edge or behind the corner. Assumes nothing.
use mathlib.Core.Path.{◌≡◌, ◌∙◌}
use mathlib.Core.Logic.{◌⊎◌, inl, inr}
use mathlib.Core.Bool.{true, ◌&&◌}
use Prim.Native.Nat.{ℕ, ◌+◌, ◌-◌, ◌*◌, ◌≤◌, ◌<◌, min}
use native.Mathlib.Omega.{arith}
use Rattle.signed.proofs.Range.{and_both}
use Rattle.edge_line.specs.Along.{along}
use Rattle.edge_line.proofs.Along.{along-here, along-far, along-in}
use Rattle.edge_line.proofs.Every.{and-of}
use Rattle.block_spec.specs.declared.spec.IntraRefSpec.{IntraRefSpec}
use Rattle.block_spec.proofs.Behind.{neighbours, above-there, above-by-left, above-by-base, left_there, left-by-above, left-by-base}
use Rattle.block_spec.proofs.Behind.{corner-by-both, corner-by-above, corner-by-left, corner-by-base}
use Rattle.block_spec.specs.Placed.{Standing}
use Rattle.reorder.specs.Rect.{InAny}
use Rattle.touches.specs.Touches.{Read, by-above, by_left, by-corner}
use Rattle.touches.specs.Rects.{runs_of}
use Rattle.touches.proofs.Places.{rect-if, is_at, at-is, at_none}

module _ (W H : ℕ) (s : IntraRefSpec) (g : Standing W H s) (p : ℕ) where
  -- ways into the five runs
  in-above : s.have_above ≡ true → (k : ℕ) → (k < min s.b s.available_above) ⊎ ((s.b ≤ k) × (k < s.b + min s.top_right s.b))
      → p ≡ (s.y - 1) * W + (s.x + k) → InAny W (runs_of true s) p
  in-above a k (inl l) e =
      inl ((rect-if W _ _ _ _ s.have_above p).1
      (a, record { row = s.y - 1; col = s.x + k; top = omega arith; bottom = omega arith; left = omega arith; right = omega arith; place = e }))
  in-above a k (inr l) e =
      inr (inl ((rect-if W _ _ _ _ s.have_above p).1
      (a, record { row = s.y - 1; col = s.x + k; top = omega arith; bottom = omega arith; left = omega arith; right = omega arith; place = e })))

  in_left : s.have_left ≡ true → (k : ℕ) → (k < min s.b s.available_left) ⊎ ((s.b ≤ k) × (k < s.b + min s.bottom_left s.b))
      → p ≡ (s.y + k) * W + (s.x - 1) → InAny W (runs_of true s) p
  in_left a k (inl l) e =
      inr (inr (inl ((rect-if W _ _ _ _ s.have_left p).1
      (a, record { row = s.y + k; col = s.x - 1; top = omega arith; bottom = omega arith; left = omega arith; right = omega arith; place = e }))))
  in_left a k (inr l) e =
      inr (inr (inr (inl ((rect-if W _ _ _ _ s.have_left p).1
      (a, record { row = s.y + k; col = s.x - 1; top = omega arith; bottom = omega arith; left = omega arith; right = omega arith; place = e })))))

  in-corner : s.have_above ≡ true → s.have_left ≡ true → p ≡ (s.y - 1) * W + (s.x - 1) → InAny W (runs_of true s) p
  in-corner a l e =
      inr (inr (inr (inr (inl ((rect-if W _ _ _ _ (s.have_above && s.have_left) p).1
      (and-of _ _ a l, record { row = s.y - 1; col = s.x - 1; top = omega arith; bottom = omega arith; left = omega arith; right = omega arith; place = e }))))))

  -- the first sample above, and the first at the left
  first_above : s.have_above ≡ true → p ≡ (s.y - 1) * W + s.x → InAny W (runs_of true s) p
  first_above a e = let n = g.above a in let d = g.side in in-above a 0 (inl (omega arith)) (omega arith)

  first-left : s.have_left ≡ true → p ≡ s.y * W + (s.x - 1) → InAny W (runs_of true s) p
  first-left l e = let n = g.left l in let d = g.side in in_left l 0 (inl (omega arith)) (rw (native.Mathlib.Nat.add-zero) e)

  pub run-of-read : Read W s p → InAny W (runs_of true s) p
  run-of-read (by-above i h q) =
      let along-run : s.have_above ≡ true → InAny W (runs_of true s) p = λ a.
      in-above a _ (along-in s.b s.available_above s.top_right g.side.0 (g.above a).1 i) (at-is W p _ _ _ (above-there s a i) q) in
      neighbours s.have_above s.have_left
      (λ a l. along-run a)
      (λ a l. along-run a)
      (λ a l. first-left l (at-is W p _ _ _ (above-by-left s a l i) q))
      (λ a l. absurd (at_none W p _ _ (above-by-base s a l i) q))
  run-of-read (by_left i h q) =
      let along-run : s.have_left ≡ true → InAny W (runs_of true s) p = λ l.
      in_left l _ (along-in s.b s.available_left s.bottom_left g.side.0 (g.left l).1 i) (at-is W p _ _ _ (left_there s l i) q) in
      neighbours s.have_above s.have_left
      (λ a l. along-run l)
      (λ a l. first_above a (at-is W p _ _ _ (left-by-above s l a i) q))
      (λ a l. along-run l)
      (λ a l. absurd (at_none W p _ _ (left-by-base s l a i) q))
  run-of-read (by-corner q) =
      neighbours s.have_above s.have_left
      (λ a l. in-corner a l (at-is W p _ _ _ (corner-by-both s a l) q))
      (λ a l. first_above a (at-is W p _ _ _ (corner-by-above s a l) q))
      (λ a l. first-left l (at-is W p _ _ _ (corner-by-left s a l) q))
      (λ a l. absurd (at_none W p _ _ (corner-by-base s a l) q))

  -- the sample k along a neighbour's line
  read_above : s.have_above ≡ true → (k : ℕ) → k < 2 * s.b → along s.b s.available_above s.top_right k ≡ k
      → p ≡ (s.y - 1) * W + (s.x + k) → Read W s p
  read_above a k h e q = by-above k h (is_at W p _ _ _ (above-there s a k) (rw e q))

  read_left : s.have_left ≡ true → (k : ℕ) → k < 2 * s.b → along s.b s.available_left s.bottom_left k ≡ k
      → p ≡ (s.y + k) * W + (s.x - 1) → Read W s p
  read_left l k h e q = by_left k h (is_at W p _ _ _ (left_there s l k) (rw e q))

  pub read-of-run : InAny W (runs_of true s) p → Read W s p
  read-of-run (inl i) =
      let r = (rect-if W _ _ _ _ s.have_above p).0 i in
      let q = r.1 in
      let k : ℕ = q.col - s.x in
      let row : q.row ≡ s.y - 1 = omega arith in
      let col : q.col ≡ s.x + k = omega arith in
      read_above r.0 k (omega arith) (along-here s.b _ _ k (omega arith)) (q.place ∙ (λ j. row j * W + col j))
  read-of-run (inr (inl i)) =
      let r = (rect-if W _ _ _ _ s.have_above p).0 i in
      let q = r.1 in
      let k : ℕ = q.col - s.x in
      let row : q.row ≡ s.y - 1 = omega arith in
      let col : q.col ≡ s.x + k = omega arith in
      read_above r.0 k (omega arith) (along-far s.b _ _ k (omega arith) (omega arith)) (q.place ∙ (λ j. row j * W + col j))
  read-of-run (inr (inr (inl i))) =
      let r = (rect-if W _ _ _ _ s.have_left p).0 i in
      let q = r.1 in
      let k : ℕ = q.row - s.y in
      let row : q.row ≡ s.y + k = omega arith in
      let col : q.col ≡ s.x - 1 = omega arith in
      read_left r.0 k (omega arith) (along-here s.b _ _ k (omega arith)) (q.place ∙ (λ j. row j * W + col j))
  read-of-run (inr (inr (inr (inl i)))) =
      let r = (rect-if W _ _ _ _ s.have_left p).0 i in
      let q = r.1 in
      let k : ℕ = q.row - s.y in
      let row : q.row ≡ s.y + k = omega arith in
      let col : q.col ≡ s.x - 1 = omega arith in
      read_left r.0 k (omega arith) (along-far s.b _ _ k (omega arith) (omega arith)) (q.place ∙ (λ j. row j * W + col j))
  read-of-run (inr (inr (inr (inr (inl i))))) =
      let r = (rect-if W _ _ _ _ (s.have_above && s.have_left) p).0 i in
      let q = r.1 in
      let t = and_both s.have_above s.have_left r.0 in
      let row : q.row ≡ s.y - 1 = omega arith in
      let col : q.col ≡ s.x - 1 = omega arith in
      by-corner (is_at W p _ _ _ (corner-by-both s t.0 t.1) (q.place ∙ (λ j. row j * W + col j)))
  read-of-run (inr (inr (inr (inr (inr i))))) = absurd i
