-- Which rows of the plan that is read stand in which block of the bytes. Assumes nothing.
use mathlib.Core.Path.{◌≡◌, sym, ◌∙◌, ap}
use mathlib.Core.List.{List}
use mathlib.Core.Logic.{◌⊎◌, inl, inr, ⊎_elim}
use Prim.Native.Nat.{ℕ, ◌+◌, ◌-◌, ◌*◌, ◌<◌, ◌≤◌, min}
use native.Mathlib.Nat.{mul-le-mul_right, min-eq_right, min-eq_left}
use native.Mathlib.Omega.{arith}
use lib.ListN.{get_or}
use borrow.Author.Tests.{ne_eqb}
use Rattle.signed.proofs.Naturals.{either}
use Rattle.block_image.specs.Image.{rows_in, used_in}
use Rattle.block_image.specs.Rules.{block_bytes, used_at}
use Rattle.block_image.specs.Taken.{blocks_in, WholeFile, rows_of, plan_of}
use Rattle.block_image.specs.Fits.{Fits}
use Rattle.block_image.specs.declared.format.Format.{Format}
use Rattle.block_image.proofs.RowsOf.{rows-in}
use Rattle.block_image.proofs.Block.{Shown, shown}

module _ (F : Format) (fit : Fits F) (bytes : List ℕ) (small : (i : ℕ) → get_or bytes i 0 < 256) (accepted : WholeFile F bytes) where
  abbrev n : ℕ
  n = blocks_in bytes

  abbrev plan : List ℕ
  plan = plan_of F bytes

  abbrev used : ℕ → ℕ
  used k = used_at (block_bytes bytes k)

  pub of-block : (k : ℕ) → k < n → Shown F n k (block_bytes bytes k)
  of-block k l = shown F bytes k (accepted.each k l)

  pub rows_are : (k : ℕ) → k < n → rows_of F bytes ≡ (n - 1) * F.rows + used (n - 1)
  rows_are k l = rw (ne_eqb n 0 (λ (e : n ≡ 0). omega arith))

  last-is : (k : ℕ) → k + 1 ≡ n → (n - 1) * F.rows + used (n - 1) ≡ k * F.rows + used k
  last-is k e = let z : n - 1 ≡ k = omega arith in ap (λ (m : ℕ). m * F.rows + used m) z

  -- of block k the plan has the rows that the block says
  pub rows-past : (k : ℕ) → k < n → ((k + 1 ≡ n) × (rows_of F bytes ≡ k * F.rows + used k)) ⊎ ((used k ≡ F.rows) × (k * F.rows + F.rows ≤ rows_of F bytes))
  rows-past k l =
      ⊎_elim
      (λ (e : k + 1 ≡ n). inl (e, rows_are k l ∙ last-is k e))
      (λ (e : used k ≡ F.rows). ⊎_elim
      (λ (last : n ≤ k + 1). let e : k + 1 ≡ n = omega arith in inl (e, rows_are k l ∙ last-is k e))
      (λ (more : k + 1 < n). inr (e, rw (rows_are k l) (omega (arith, mul-le-mul_right {m = k + 1} {n = n - 1} F.rows (omega arith)))))
      (either n (k + 1)))
      (of-block k l).full

  pub used-is : (k : ℕ) → k < n → used_in F (rows_in F plan) k ≡ used k
  used-is k l =
      ap (λ (m : ℕ). used_in F m k) (rows-in F fit bytes)
      ∙ ⊎_elim
      (λ p. ap (λ (m : ℕ). min F.rows (m - k * F.rows)) p.1 ∙ ap (min F.rows) (omega arith) ∙ min-eq_right (of-block k l).fit)
      (λ p. min-eq_left (omega (arith, p.1)) ∙ sym p.0)
      (rows-past k l)
