-- What the tests of a block that is accepted have shown. Assumes nothing.
use mathlib.Core.Path.{◌≡◌, refl}
use mathlib.Core.Bool.{Bool, true, false, ◌&&◌, ◌||◌}
use mathlib.Core.List.{List}
use mathlib.Core.Logic.{◌⊎◌, inl, inr}
use Prim.Native.Nat.{ℕ, ◌+◌, ◌-◌, ◌*◌, ◌≤◌}
use lib.Dec.{leb, eqb}
use borrow.Author.Tests.{eqb-true, leb-true}
use Rattle.signed.proofs.Range.{and_both}
use Rattle.numbers.specs.Limits.{most_jobs}
use Rattle.block_image.specs.Bytes.{word32}
use Rattle.block_image.specs.Rules.{block_bytes, used_at, is_check, is_index, is_used, is_zero, all_zero}
use Rattle.block_image.specs.Taken.{blocks_in, is_block}
use Rattle.block_image.specs.declared.format.Format.{Format}

either_true : (a b : Bool) → (a || b) ≡ true → (a ≡ true) ⊎ (b ≡ true)
either_true true b e = inl refl
either_true false b e = inr e

pub record Shown (F : Format) (last : ℕ) (k : ℕ) (at : ℕ → ℕ) : Type 0 where
  pub check : is_check at ≡ true
  pub index : word32 at 0 ≡ k
  pub some : 1 ≤ used_at at
  pub fit : used_at at ≤ F.rows
  pub full : (k + 1 ≡ last) ⊎ (used_at at ≡ F.rows)
  pub few : k * F.rows + used_at at ≤ most_jobs
  pub before : all_zero at 8 F.zeros ≡ true
  pub unused : all_zero at (8 + F.zeros + 2 * (used_at at * F.words)) (2 * ((F.rows - used_at at) * F.words)) ≡ true

full_by : (a b c d : ℕ) → (eqb a b || eqb c d) ≡ true → (a ≡ b) ⊎ (c ≡ d)
full_by a b c d e = go (either_true (eqb a b) (eqb c d) e)
  where
    go : (eqb a b ≡ true) ⊎ (eqb c d ≡ true) → (a ≡ b) ⊎ (c ≡ d)
    go (inl p) = inl (eqb-true a b p)
    go (inr p) = inr (eqb-true c d p)

pub shown : (F : Format) (bytes : List ℕ) (k : ℕ) → is_block F bytes k ≡ true → Shown F (blocks_in bytes) k (block_bytes bytes k)
unfolding is_used
shown F bytes k e =
    let at = block_bytes bytes k in
    let p = and_both (is_check at && is_index k at && is_used F (eqb (k + 1) (blocks_in bytes)) k (used_at at)) (is_zero F (used_at at) at) e in
    let q = and_both (is_check at && is_index k at) _ p.0 in
    let c = and_both (is_check at) (is_index k at) q.0 in
    let u = and_both _ (leb (k * F.rows + used_at at) most_jobs) q.1 in
    let v = and_both (leb 1 (used_at at) && leb (used_at at) F.rows) _ u.0 in
    let w = and_both (leb 1 (used_at at)) _ v.0 in
    let z = and_both (all_zero at 8 F.zeros) _ p.1 in
    record {
      check = c.0;
      index = eqb-true _ _ c.1;
      some = leb-true _ _ w.0;
      fit = leb-true _ _ w.1;
      full = full_by _ _ _ _ v.1;
      few = leb-true _ _ u.1;
      before = z.0;
      unused = z.1;
    }
