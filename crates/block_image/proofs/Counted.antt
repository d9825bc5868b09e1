-- How many rows of n stand in each of their blocks: "All blocks but the last hold fifteen rows; an empty plan has no blocks." Assumes nothing.
use mathlib.Core.Path.{◌≡◌}
use mathlib.Core.Logic.{◌⊎◌, inl, inr, ⊎_elim}
use Prim.Native.Nat.{ℕ, ◌+◌, ◌-◌, ◌*◌, ◌<◌, ◌≤◌}
use native.Mathlib.Nat.{div-eq_of_lt, le-div_iff_mul-le, div-lt_iff_lt-mul, min-eq_left, min-eq_right}
use native.Mathlib.Omega.{arith}
use Rattle.signed.proofs.Naturals.{either}
use Rattle.block_image.specs.Image.{blocks_for, used_in}
use Rattle.block_image.specs.Fits.{Fits}
use Rattle.block_image.specs.declared.format.Format.{Format}

module _ (F : Format) (fit : Fits F) (n : ℕ) where
  abbrev blocks : ℕ
  blocks = blocks_for F n

  -- a block that is there has a row
  pub begins : (k : ℕ) → k < blocks → k * F.rows < n
  begins k l =
      let h : (k + 1) * F.rows ≤ n + F.rows - 1 = (le-div_iff_mul-le fit.some-rows).0 (omega arith) in
      omega (arith, fit.some-rows)

  pub ends : n ≤ blocks * F.rows
  ends =
      let h : n + F.rows - 1 < (blocks + 1) * F.rows = (div-lt_iff_lt-mul fit.some-rows).0 (omega arith) in
      omega (arith, fit.some-rows)

  pub last-or-full : (k : ℕ) → k < blocks → ((k + 1 ≡ blocks) × (used_in F n k ≡ n - k * F.rows) × (n - k * F.rows ≤ F.rows)) ⊎ ((used_in F n k ≡ F.rows) × (k * F.rows + F.rows ≤ n))
  last-or-full k l =
      ⊎_elim
      (λ (p : blocks ≤ k + 1).
      let e : k + 1 ≡ blocks = omega arith in
      let h : n ≤ (k + 1) * F.rows = rw e ends in
      let r : n - k * F.rows ≤ F.rows = omega arith in
      inl (e, min-eq_right r, r))
      (λ (p : k + 1 < blocks).
      let h = begins (k + 1) p in
      inr (min-eq_left (omega arith), omega arith))
      (either blocks (k + 1))

  pub some-used : (k : ℕ) → k < blocks → 1 ≤ used_in F n k
  some-used k l = ⊎_elim (λ p. rw p.1 (omega (arith, begins k l))) (λ p. rw p.0 fit.some-rows) (last-or-full k l)

  pub used-most : (k : ℕ) → used_in F n k ≤ F.rows
  used-most k = omega arith

  pub within : (k : ℕ) → k < blocks → k * F.rows + used_in F n k ≤ n
  within k l = ⊎_elim (λ p. rw p.1 (omega (arith, begins k l))) (λ p. rw p.0 p.1) (last-or-full k l)

-- "an empty plan has no blocks"
pub no_blocks : (F : Format) → Fits F → blocks_for F 0 ≡ 0
no_blocks F fit = div-eq_of_lt (omega (arith, fit.some-rows))
