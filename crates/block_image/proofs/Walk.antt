-- The rules of the blocks, block by block: the first block that is refused gives the answer. Assumes nothing.
use mathlib.Core.Path.{◌≡◌, refl, sym, ◌∙◌, ap}
use mathlib.Core.List.{List}
use mathlib.Core.Logic.{⊎_elim}
use Prim.Native.Nat.{ℕ, zero, suc, ◌+◌, ◌≤◌}
use native.Mathlib.Nat.{eq-or-lt_of_le, le_of_suc-le-suc}
use native.Mathlib.Omega.{arith}
use lib.Dec.{eqb}
use Rattle.std.specs.Prelude.{Err}
use Rattle.numbers.specs.Answer.{done}
use Rattle.numbers.specs.declared.answer.Refusal.{Refusal}
use Rattle.refusals.specs.Ladder.{Rule, ladder}
use Rattle.refusals.proofs.Ladder.{ladder-ok, ladder-err}
use Rattle.block_image.specs.Rules.{block_bytes}
use Rattle.block_image.specs.Taken.{blocks_in}
use Rattle.block_image.specs.declared.format.Format.{Format}
use Rattle.block_image.specs.Refusals.{block_rules, block_answer, blocks_rules}

module _ (F : Format) (bytes : List ℕ) where
  abbrev of : ℕ → List Rule
  of k = block_rules F (eqb (k + 1) (blocks_in bytes)) k (block_bytes bytes k)

  pub blocks-none : ladder (blocks_rules F bytes 0) ≡ done
  unfolding blocks_rules
  blocks-none = refl

  -- the blocks before it are kept
  pub blocks-next : (k : ℕ) → ladder (blocks_rules F bytes k) ≡ done
      → ladder (blocks_rules F bytes (suc k)) ≡ block_answer F (eqb (k + 1) (blocks_in bytes)) k (block_bytes bytes k)
  unfolding blocks_rules block_answer
  blocks-next k e = ladder-ok (blocks_rules F bytes k) (of k) tt e

  -- a block is refused: that is the answer, whatever follows
  pub blocks-stay : (k n : ℕ) {r : Refusal} → k ≤ n → ladder (blocks_rules F bytes k) ≡ Err r → ladder (blocks_rules F bytes n) ≡ Err r
  unfolding blocks_rules
  blocks-stay k zero l e = let z : 0 ≡ k = omega arith in ap (λ (x : ℕ). ladder (blocks_rules F bytes x)) z ∙ e
  blocks-stay k (suc n) l e =
      ⊎_elim
      (λ q. ap (λ (x : ℕ). ladder (blocks_rules F bytes x)) (sym q) ∙ e)
      (λ q. ladder-err (blocks_rules F bytes n) (of n) _ (blocks-stay k n (le_of_suc-le-suc q) e))
      (eq-or-lt_of_le l)
