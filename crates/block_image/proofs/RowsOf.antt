-- The rows of a file, with no block and with some, and with one block more; and of the plan that is read of it. Assumes nothing.
use mathlib.Core.Path.{◌≡◌, sym, ◌∙◌, ap}
use mathlib.Core.List.{List}
use Prim.Native.Nat.{ℕ, ◌+◌, ◌-◌, ◌*◌, ◌/◌}
use native.Mathlib.Nat.{mul-div_cancel}
use native.Mathlib.Omega.{arith}
use lib.ListN.{length}
use borrow.Author.Tests.{eq-eqb, ne_eqb}
use Rattle.lists.proofs.Fill.{length-tab}
use Rattle.block_image.specs.Image.{rows_in}
use Rattle.block_image.specs.Fits.{Fits}
use Rattle.block_image.specs.Rules.{block_bytes, used_at}
use Rattle.block_image.specs.Taken.{blocks_in, rows_to, rows_of, plan_of}
use Rattle.block_image.specs.declared.format.Format.{Format}

pub plan-length : (F : Format) (bytes : List ℕ) → length (plan_of F bytes) ≡ rows_of F bytes * F.words
unfolding plan_of
plan-length F bytes = length-tab _ _

pub rows-in : (F : Format) → Fits F → (bytes : List ℕ) → rows_in F (plan_of F bytes) ≡ rows_of F bytes
rows-in F fit bytes = ap (λ (m : ℕ). m / F.words) (plan-length F bytes) ∙ mul-div_cancel (rows_of F bytes) fit.some_words

pub rows_next : (F : Format) (bytes : List ℕ) (k : ℕ) → k * F.rows + used_at (block_bytes bytes k) ≡ rows_to F bytes (k + 1)
rows_next F bytes k =
    let z : k + 1 - 1 ≡ k = omega arith in
    rw (ne_eqb (k + 1) 0 (λ (e : k + 1 ≡ 0). omega arith)) (ap (λ (m : ℕ). m * F.rows + used_at (block_bytes bytes m)) (sym z))

module _ (F : Format) (bytes : List ℕ) (n : ℕ) (is : n ≡ blocks_in bytes) where
  pub rows_none : n ≡ 0 → rows_of F bytes ≡ 0
  rows_none e = rw (eq-eqb (blocks_in bytes) 0 (sym is ∙ e))

  pub rows-some : (n ≡ 0 → ⊥) → rows_of F bytes ≡ (n - 1) * F.rows + used_at (block_bytes bytes (n - 1))
  rows-some d =
      rw (ne_eqb (blocks_in bytes) 0 (λ (e : blocks_in bytes ≡ 0). d (is ∙ e)))
      (ap (λ (m : ℕ). (m - 1) * F.rows + used_at (block_bytes bytes (m - 1))) (sym is))
