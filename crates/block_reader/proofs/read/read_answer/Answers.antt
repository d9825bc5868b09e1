-- `read_answer` meets its contract: each test is the ladder's, in its order. Assumes nothing.
use mathlib.Core.Path.{refl, sym}
use Prim.Native.Nat.{◌≤◌}
use native.Mathlib.Nat.{mul-le-mul}
use native.Mathlib.Omega.{arith}
use lib.ListN.{length}
use Rattle.numbers.proofs.Look.{passed_on}
use Rattle.block_image.proofs.Fits.{words-most, whole-few}
use Rattle.block_image.proofs.WholeFile.{accepted-of, rows_few}
use Rattle.block_image.proofs.Steps.{not-blocks, block_refused, no_room, all-passed}
use Rattle.block_reader.proofs.read.read_answer.Goals as goal

pub returns-then-not-is_whole-clause-refused : goal.returns-then-not-is_whole-clause-refused
returns-then-not-is_whole-clause-refused c = sym (not-blocks _ _ _ _ (sym c.if-not-is_whole.ensures))

pub blocks_answer-requires : goal.blocks_answer-requires
blocks_answer-requires c =
    let few = whole-few c.args.f (length c.args.bytes.now) (sym c.if-not-is_whole.ensures) in
    (c.requires, refl, omega (arith, c.requires.few))

pub returns-in_err-rows-clause-refused : goal.returns-in_err-rows-clause-refused
returns-in_err-rows-clause-refused c =
    rw (passed_on _ c.from_residual.ensures.1) (block_refused _ _ _ _ (sym c.if-not-is_whole.ensures) c.in_err-rows.ensures.refused)

pub overflow_mul-rows : goal.overflow_mul-rows
overflow_mul-rows c =
    let a = c.in_ok-rows.ensures.accepted in
    let few : c.in_ok-rows.rows ≤ 1024 = rw a.1 (rows_few _ _ (accepted-of c.args.f c.args.bytes.now (sym c.if-not-is_whole.ensures) a.0)) in
    omega (arith, mul-le-mul few (words-most c.args.f c.requires))

pub returns-then-not-has_room-clause-refused : goal.returns-then-not-has_room-clause-refused
returns-then-not-has_room-clause-refused c =
    let a = c.in_ok-rows.ensures.accepted in
    sym (no_room _ _ _ _ (sym c.if-not-is_whole.ensures) a.0 (sym (rw a.1 at c.if-not-has_room.ensures)))

pub returns-clause-accepted : goal.returns-clause-accepted
returns-clause-accepted c =
    let a = c.in_ok-rows.ensures.accepted in
    (all-passed _ _ _ _ (sym c.if-not-is_whole.ensures) a.0 (sym (rw a.1 at c.if-not-has_room.ensures)), a.1)
