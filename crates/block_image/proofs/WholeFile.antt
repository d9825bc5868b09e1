-- What the tests of a reading have shown: every block is as it must be, and what is taken is there. Assumes nothing.
use mathlib.Core.Path.{◌≡◌, refl, sym, ap, subst}
use mathlib.Core.Bool.{true, ◌&&◌}
use mathlib.Core.List.{List, [], ◌∷◌}
use mathlib.Core.Logic.{⊎_elim}
use Prim.Native.Nat.{ℕ, zero, suc, ◌+◌, ◌-◌, ◌*◌, ◌≤◌, ◌<◌}
use native.Mathlib.Nat.{eq-or-lt_of_le, le_of_suc-le-suc, mul-le-mul_right}
use native.Mathlib.Omega.{arith}
use lib.Dec.{eqb, leb}
use borrow.Author.Tests.{leb-true}
use Rattle.signed.proofs.Range.{and_both}
use lib.ListN.{length}
use Rattle.signed.proofs.Naturals.{either}
use Rattle.numbers.specs.Limits.{most_jobs}
use Rattle.numbers.specs.declared.answer.Refusal.TheVariants.{NoRoom}
use Rattle.refusals.specs.Ladder.{Rule, ◌else◌, ladder}
use Rattle.refusals.proofs.Ladder.{AllKept, all-kept, kept_append}
use Rattle.block_image.specs.Rules.{block_bytes, is_whole}
use Rattle.block_image.specs.Taken.{blocks_in, WholeFile, rows_of}
use Rattle.block_image.specs.declared.format.Format.{Format}
use Rattle.block_image.proofs.Block.{shown}
use Rattle.block_image.proofs.RowsOf.{rows_none, rows-some}
use Rattle.block_image.specs.Refusals.{block_rules, blocks_rules, has_room, file_rules, file_answer}
use Rattle.numbers.specs.Answer.{done}

pub room-parts : (need room slots : ℕ) → has_room need room slots ≡ true → (need ≤ room) × (1 ≤ slots)
unfolding has_room
room-parts need room slots e = let p = and_both (leb need room) (leb 1 slots) e in (leb-true _ _ p.0, leb-true _ _ p.1)

module _ (F : Format) (bytes : List ℕ) where
  abbrev of : ℕ → List Rule
  of k = block_rules F (eqb (k + 1) (blocks_in bytes)) k (block_bytes bytes k)

  each-kept : (n k : ℕ) → k < n → AllKept (blocks_rules F bytes n) → AllKept (of k)
  unfolding blocks_rules
  each-kept zero k l h = absurd (omega arith)
  each-kept (suc n) k l h =
      let p = kept_append (blocks_rules F bytes n) (of n) h in
      ⊎_elim (λ e. subst (λ (x : ℕ). AllKept (of x)) (sym e) p.1) (λ q. each-kept n k q p.0) (eq-or-lt_of_le (le_of_suc-le-suc l))

  accepted-by : is_whole F (length bytes) ≡ true → AllKept (blocks_rules F bytes (blocks_in bytes)) → WholeFile F bytes
  accepted-by w all =
      record {
        whole = w;
        each = λ k l. let p = each-kept (blocks_in bytes) k l all in λ j. p.0 j && p.1.0 j && p.1.1.0 j && p.1.1.1.0 j;
      }

  pub accepted-of : is_whole F (length bytes) ≡ true → ladder (blocks_rules F bytes (blocks_in bytes)) ≡ done → WholeFile F bytes
  accepted-of w e = accepted-by w (all-kept (blocks_rules F bytes (blocks_in bytes)) e)

  -- a reading that is done
  pub read_done : (room slots : ℕ) → file_answer F bytes room slots ≡ done → WholeFile F bytes × (has_room (rows_of F bytes * F.words) room slots ≡ true)
  unfolding file_answer
  read_done room slots e =
      let rules = blocks_rules F bytes (blocks_in bytes) in
      let last = has_room (rows_of F bytes * F.words) room slots else NoRoom ∷ [] in
      let all = all-kept (file_rules F bytes room slots) e in
      let two = kept_append rules last all.1 in
      (accepted-by all.0 two.0, two.1.0)

  module _ (accepted : WholeFile F bytes) where
    pub rows_few : rows_of F bytes ≤ most_jobs
    rows_few =
        ⊎_elim
        (λ (p : 1 ≤ blocks_in bytes).
        let n = blocks_in bytes in
        let s = shown F bytes (n - 1) (accepted.each (n - 1) (omega arith)) in
        rw (rows-some F bytes n refl (λ (e : n ≡ 0). omega arith)) s.few)
        (λ (p : blocks_in bytes < 1). let z : blocks_in bytes ≡ 0 = omega arith in rw (rows_none F bytes (blocks_in bytes) refl z) (omega arith))
        (either 1 (blocks_in bytes))

    pub rows-within : rows_of F bytes ≤ blocks_in bytes * F.rows
    rows-within =
        ⊎_elim
        (λ (p : 1 ≤ blocks_in bytes).
        let n = blocks_in bytes in
        let s = shown F bytes (n - 1) (accepted.each (n - 1) (omega arith)) in
        let z : n ≡ n - 1 + 1 = omega arith in
        let m : n * F.rows ≡ (n - 1 + 1) * F.rows = ap (λ (x : ℕ). x * F.rows) z in
        omega (arith, rows-some F bytes n refl (λ (e : n ≡ 0). omega arith), s.fit))
        (λ (p : blocks_in bytes < 1). let z : blocks_in bytes ≡ 0 = omega arith in rw (rows_none F bytes (blocks_in bytes) refl z) (omega arith))
        (either 1 (blocks_in bytes))

    pub words-within : rows_of F bytes * F.words ≤ blocks_in bytes * (F.rows * F.words)
    words-within = omega (arith, mul-le-mul_right {m = rows_of F bytes} {n = blocks_in bytes * F.rows} F.words rows-within)
