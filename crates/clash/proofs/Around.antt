-- All that a job reads and writes lies in its hull, and the hull in the plane. Assumes nothing.
use mathlib.Core.Path.{◌≡◌, refl, ap}
use mathlib.Core.Logic.{inl, inr}
use mathlib.Core.Bool.{Bool, true, false, ◌&&◌}
use Prim.Native.Nat.{ℕ, ◌+◌, ◌-◌, ◌≤◌, min}
use native.Mathlib.Omega.{arith}
use Rattle.signed.proofs.Range.{and_both}
use Rattle.block_spec.specs.declared.spec.IntraRefSpec.{IntraRefSpec}
use Rattle.block_spec.specs.Placed.{Standing}
use Rattle.reorder.specs.Rect.{Wide, In, InAny}
use Rattle.job.specs.Row.{Row, spec_of}
use Rattle.job.specs.Rules.{stands}
use Rattle.touches.specs.Rects.{runs_of, reads_of, writes_of}
use Rattle.job.proofs.Stands.{standing}
use Rattle.touches.proofs.Places.{rect-if}
use Rattle.touches.proofs.Exact.{writes-wide, reads-exact}
use Rattle.touches.specs.Touches.{block_at}
use Rattle.clash.specs.Hull.{one, past, hull_of, only_if, block_for, hull_for}

-- a neighbour adds at most one row or column, and at most B samples past the block
pub one-most : (b : Bool) → one b ≤ 1
one-most true = omega arith
one-most false = omega arith

pub past-most : (b : Bool) (more B : ℕ) → past b more B ≤ B
past-most true more B = omega arith
past-most false more B = omega arith

pub one-near : (b : Bool) (x : ℕ) → (b ≡ true → 1 ≤ x) → one b ≤ x
one-near true x f = f refl
one-near false x f = omega arith

module _ (W H : ℕ) (s : IntraRefSpec) (g : Standing W H s) (p : ℕ) where
  -- a sample of the row above, of the column at the left, of the block
  by-above : s.have_above ≡ true → (x w : ℕ) → s.x ≤ x → x + w ≤ s.x + s.b + min s.top_right s.b
      → In W (record { x = x; y = s.y - 1; w = w; h = 1 }) p → In W (hull_of s) p
  by-above a x w l r i =
      let n = g.above a in
      let o : one s.have_above ≡ 1 = ap one a in
      let t : past s.have_above s.top_right s.b ≡ min s.top_right s.b = ap (λ b. past b s.top_right s.b) a in
      record { row = i.row; col = i.col; top = omega arith; bottom = omega arith; left = omega arith; right = omega arith; place = i.place }

  by_left : s.have_left ≡ true → (y h : ℕ) → s.y ≤ y → y + h ≤ s.y + s.b + min s.bottom_left s.b
      → In W (record { x = s.x - 1; y = y; w = 1; h = h }) p → In W (hull_of s) p
  by_left a y h l r i =
      let n = g.left a in
      let o : one s.have_left ≡ 1 = ap one a in
      let t : past s.have_left s.bottom_left s.b ≡ min s.bottom_left s.b = ap (λ b. past b s.bottom_left s.b) a in
      record { row = i.row; col = i.col; top = omega arith; bottom = omega arith; left = omega arith; right = omega arith; place = i.place }

  by-corner : s.have_above ≡ true → s.have_left ≡ true → In W (record { x = s.x - 1; y = s.y - 1; w = 1; h = 1 }) p → In W (hull_of s) p
  by-corner a b i =
      let n = g.above a in
      let m = g.left b in
      let d = g.side in
      let o : one s.have_above ≡ 1 = ap one a in
      let q : one s.have_left ≡ 1 = ap one b in
      record { row = i.row; col = i.col; top = omega arith; bottom = omega arith; left = omega arith; right = omega arith; place = i.place }

  by-block : In W (block_at s) p → In W (hull_of s) p
  by-block i =
      record { row = i.row; col = i.col; top = omega arith; bottom = omega arith; left = omega arith; right = omega arith; place = i.place }

  -- the five runs
  run_in : InAny W (runs_of true s) p → In W (hull_of s) p
  run_in (inl i) = let r = (rect-if W _ _ _ _ s.have_above p).0 i in by-above r.0 _ _ (omega arith) (omega arith) r.1
  run_in (inr (inl i)) = let r = (rect-if W _ _ _ _ s.have_above p).0 i in by-above r.0 _ _ (omega arith) (omega arith) r.1
  run_in (inr (inr (inl i))) = let r = (rect-if W _ _ _ _ s.have_left p).0 i in by_left r.0 _ _ (omega arith) (omega arith) r.1
  run_in (inr (inr (inr (inl i)))) = let r = (rect-if W _ _ _ _ s.have_left p).0 i in by_left r.0 _ _ (omega arith) (omega arith) r.1
  run_in (inr (inr (inr (inr (inl i))))) =
      let r = (rect-if W _ _ _ _ (s.have_above && s.have_left) p).0 i in
      let t = and_both s.have_above s.have_left r.0 in
      by-corner t.0 t.1 r.1
  run_in (inr (inr (inr (inr (inr i))))) = absurd i

-- ---- the hull lies in the plane

module _ (W H : ℕ) (s : IntraRefSpec) (g : Standing W H s) where
  columns : (a l : Bool) → s.have_above ≡ a → s.have_left ≡ l → s.x - one l + (one l + s.b + past a s.top_right s.b) ≤ W
  columns true true e f = omega (arith, g.above e, g.left f)
  columns true false e f = omega (arith, g.above e)
  columns false true e f = omega (arith, g.columns, g.left f)
  columns false false e f = omega (arith, g.columns)

  rows : (a l : Bool) → s.have_above ≡ a → s.have_left ≡ l → s.y - one a + (one a + s.b + past l s.bottom_left s.b) ≤ H
  rows true true e f = omega (arith, g.above e, g.left f)
  rows true false e f = omega (arith, g.rows, g.above e)
  rows false true e f = omega (arith, g.left f)
  rows false false e f = omega (arith, g.rows)

  pub hull-columns : (hull_of s).x + (hull_of s).w ≤ W
  hull-columns = columns _ _ refl refl

  pub hull-rows : (hull_of s).y + (hull_of s).h ≤ H
  hull-rows = rows _ _ refl refl

-- ---- a row's

module _ (W H n : ℕ) (row : Row) where
  pub hull-wide : Wide W (hull_for W H n row)
  hull-wide = go (stands W H n row) refl
    where
      go : (b : Bool) → stands W H n row ≡ b → Wide W (only_if b (hull_of (spec_of row)))
      go true e = hull-columns W H (spec_of row) (standing W H n row e)
      go false e = omega arith

  pub block-wide : Wide W (block_for W H n row)
  unfolding writes_of
  block-wide = (writes-wide W H n row).0

  pub writes-in : (p : ℕ) → InAny W (writes_of W H n row) p → In W (block_for W H n row) p
  unfolding writes_of
  writes-in p (inl i) = i
  writes-in p (inr i) = absurd i

  pub block_in : (p : ℕ) → In W (block_for W H n row) p → In W (hull_for W H n row) p
  block_in p i =
      let r = (rect-if W _ _ _ _ (stands W H n row) p).0 i in
      (rect-if W _ _ _ _ (stands W H n row) p).1 (r.0, by-block W H (spec_of row) (standing W H n row r.0) p r.1)

  pub reads_in : (p : ℕ) → InAny W (reads_of W H n row) p → In W (hull_for W H n row) p
  unfolding reads_of
  reads_in p i =
      let e = ((reads-exact W H n row p).0 i).0 in
      (rect-if W _ _ _ _ (stands W H n row) p).1 (e, run_in W H (spec_of row) (standing W H n row e) p (rw e at i))
