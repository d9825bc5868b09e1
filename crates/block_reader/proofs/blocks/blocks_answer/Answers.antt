-- `blocks_answer` meets its contract. The invariant: the first k blocks are as they must be, and so many rows are counted. Assumes nothing.
use mathlib.Core.Path.{◌≡◌, refl, sym, ◌∙◌, ap}
use mathlib.Core.List.{List}
use Prim.Native.Nat.{ℕ, ◌+◌, ◌*◌}
use native.Mathlib.Omega.{arith}
use native.Mathlib.Numerals.{add-one}
use lib.Dec.{eqb}
use Rattle.numbers.specs.Answer.{done}
use Rattle.numbers.proofs.Look.{passed_on}
use Rattle.refusals.specs.Ladder.{ladder}
use Rattle.block_image.specs.Rules.{block_bytes}
use Rattle.block_image.specs.Refusals.{block_answer, blocks_rules}
use Rattle.block_image.specs.Taken.{blocks_in}
use Rattle.block_image.specs.declared.format.Format.{Format}
use Rattle.block_image.proofs.RowsOf.{rows_next}
use Rattle.block_image.proofs.Walk.{blocks-none, blocks-next, blocks-stay}
use Rattle.block_reader.proofs.blocks.blocks_answer.Goals as goal

-- what a block answers after those before it
next-is : (F : Format) (bytes : List ℕ) (n k : ℕ) → n ≡ blocks_in bytes → ladder (blocks_rules F bytes k) ≡ done
    → ladder (blocks_rules F bytes (k + 1)) ≡ block_answer F (eqb (k + 1) n) k (block_bytes bytes k)
next-is F bytes n k e before =
    ap (λ x. ladder (blocks_rules F bytes x)) (add-one k)
    ∙ blocks-next F bytes k before
    ∙ ap (λ x. block_answer F (eqb (k + 1) x) k (block_bytes bytes k)) (sym e)

pub loop-k-init : goal.loop-k-init
loop-k-init c = (blocks-none _ _, refl)

pub returns-in_err-block_answer-clause-refused : goal.returns-in_err-block_answer-clause-refused
returns-in_err-block_answer-clause-refused c =
    let here = next-is _ _ _ _ c.requires.1 c.loop-k.invariant.0 ∙ sym c.in_err-block_answer.ensures in
    rw (passed_on _ c.from_residual.ensures.1) (blocks-stay _ _ _ _ (omega arith) here)

pub loop-k-preserved : goal.loop-k-preserved
loop-k-preserved c = (
  next-is _ _ _ _ c.requires.1 c.loop-k.invariant.0 ∙ sym c.in_ok-block_answer.ensures,
  ap (λ x. c.loop-k.k * c.args.f.rows + x) c.word_32-used.ensures ∙ rows_next c.args.f c.args.bytes.now _,
)
