-- The rectangles are exact: a sample is in one of them exactly when the job reads it, or writes it. Assumes nothing.
use mathlib.Core.Path.{◌≡◌, refl}
use mathlib.Core.Logic.{◌↔◌, inl, inr, ⊎_elim}
use mathlib.Core.Bool.{Bool, true, false, ◌&&◌, false≢true}
use Prim.Native.Nat.{ℕ, ◌+◌, ◌-◌, ◌≤◌, min}
use native.Mathlib.Omega.{arith}
use Rattle.signed.proofs.Range.{and_both}
use Rattle.edge_line.proofs.Every.{and-of}
use Rattle.block_spec.specs.declared.spec.IntraRefSpec.{IntraRefSpec}
use Rattle.block_spec.specs.Placed.{Standing}
use Rattle.reorder.specs.Rect.{InAny, AllWide}
use Rattle.job.specs.Row.{Row, spec_of}
use Rattle.job.specs.Rules.{stands}
use Rattle.touches.specs.Touches.{Reads, Writes}
use Rattle.touches.specs.Rects.{runs_of, reads_of, writes_of}
use Rattle.job.proofs.Stands.{standing}
use Rattle.touches.proofs.Places.{rect-if, wide-if}
use Rattle.touches.proofs.Runs.{run-of-read, read-of-run}

-- a job that does not stand has no runs
no-runs : (W : ℕ) (s : IntraRefSpec) (p : ℕ) → ¬ (InAny W (runs_of false s) p)
no-runs W s p (inl i) = omega arith
no-runs W s p (inr (inl i)) = omega arith
no-runs W s p (inr (inr (inl i))) = omega arith
no-runs W s p (inr (inr (inr (inl i)))) = omega arith
no-runs W s p (inr (inr (inr (inr (inl i))))) = omega arith
no-runs W s p (inr (inr (inr (inr (inr i))))) = i

module _ (W H : ℕ) (s : IntraRefSpec) (on : Bool) (g : on ≡ true → Standing W H s) where
  near : (on && s.have_above) ≡ true → s.x + min s.b s.available_above ≤ W
  near e = let t = and_both on s.have_above e in omega (arith, (g t.0).columns)

  far : (on && s.have_above) ≡ true → s.x + s.b + min s.top_right s.b ≤ W
  far e = let t = and_both on s.have_above e in ((g t.0).above t.1).2

  aside : (on && s.have_left) ≡ true → s.x - 1 + 1 ≤ W
  aside e = let t = and_both on s.have_left e in let k = g t.0 in omega (arith, k.left t.1, k.columns, k.side)

  both : (on && (s.have_above && s.have_left)) ≡ true → s.x - 1 + 1 ≤ W
  both e =
      let t = and_both on (s.have_above && s.have_left) e in
      aside (and-of _ _ t.0 (and_both s.have_above s.have_left t.1).1)

  runs_wide : AllWide W (runs_of on s)
  runs_wide =
      (wide-if W _ _ _ _ _ near, (wide-if W _ _ _ _ _ far, (wide-if W _ _ _ _ _ aside, (wide-if W _ _ _ _ _ aside, (wide-if W _ _ _ _ _ both, tt)))))

module _ (W H n : ℕ) (row : Row) where
  pub reads-wide : AllWide W (reads_of W H n row)
  unfolding reads_of
  reads-wide = runs_wide W H (spec_of row) (stands W H n row) (standing W H n row)

  pub writes-wide : AllWide W (writes_of W H n row)
  unfolding writes_of
  writes-wide = (wide-if W _ _ _ _ (stands W H n row) (λ e. (standing W H n row e).columns), tt)

  -- the read samples are those of the runs
  pub reads-exact : (p : ℕ) → InAny W (reads_of W H n row) p ↔ Reads W H n row p
  unfolding reads_of
  reads-exact p = (to (stands W H n row) refl, λ r. from (stands W H n row) r.0 (run-of-read W H (spec_of row) (standing W H n row r.0) p r.1))
    where
      to : (b : Bool) → stands W H n row ≡ b → InAny W (runs_of b (spec_of row)) p → Reads W H n row p
      to true e i = (e, read-of-run W H (spec_of row) (standing W H n row e) p i)
      to false e i = absurd (no-runs W (spec_of row) p i)

      from : (b : Bool) → b ≡ true → InAny W (runs_of true (spec_of row)) p → InAny W (runs_of b (spec_of row)) p
      from true e i = i
      from false e i = absurd (false≢true e)

  -- the written samples are those of the block
  pub writes-exact : (p : ℕ) → InAny W (writes_of W H n row) p ↔ Writes W H n row p
  unfolding writes_of
  writes-exact p = (⊎_elim (λ i. (rect-if W _ _ _ _ (stands W H n row) p).0 i) (λ i. absurd i), λ i. inl ((rect-if W _ _ _ _ (stands W H n row) p).1 i))
