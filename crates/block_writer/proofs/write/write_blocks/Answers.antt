-- `write_blocks` meets its contract: the tests, and then the blocks. Assumes nothing.
use mathlib.Core.Path.{◌≡◌, sym, ◌∙◌, ap}
use mathlib.Core.List.{List}
use Prim.Native.Nat.{ℕ, ◌*◌, ◌/◌, ◌≤◌}
use native.Mathlib.Omega.{arith}
use Rattle.numbers.specs.Answer.{done}
use Rattle.refusals.proofs.Promise.{passes-on, comes-to}
use Rattle.lists.specs.Fill.{filled}
use Rattle.lists.proofs.Fill.{filled_none, filled_more}
use Rattle.block_image.specs.Image.{rows_in, image_byte, image_size}
use Rattle.block_image.specs.Refusals.{write_answer}
use Rattle.block_image.specs.Promises.{outputs}
use Rattle.block_image.specs.declared.format.Format.{Format}
use Rattle.block_image.proofs.WholeFile.{room-parts}
use Rattle.block_writer.specs.Made.{WholeRows}
use Rattle.block_writer.proofs.Written.{whole-rows, write_done}
use Rattle.block_writer.proofs.write.write_blocks.Goals as goal

-- what a writing that is done has shown
record Shown (F : Format) (plan : List ℕ) (room slots : ℕ) : Type 0 where
  rows : WholeRows F plan (rows_in F plan)
  fit : image_size F plan ≤ room
  slot : 1 ≤ slots

shown : (F : Format) (plan : List ℕ) (room slots : ℕ) → done ≡ write_answer F plan room slots → Shown F plan room slots
shown F plan room slots e =
    let d = write_done F plan room slots (sym e) in
    let r = room-parts _ _ _ d.1 in
    record { rows = whole-rows F plan d.0; fit = r.0; slot = r.1 }

-- the blocks by the size
blocks-are : (n blocks : ℕ) → n ≡ 512 * blocks → n / 512 ≡ blocks
blocks-are n blocks e = omega arith

pub returns-in_err-write_answer : goal.returns-in_err-write_answer
returns-in_err-write_answer c = passes-on _ _ _ c.from_residual.ensures.1 c.in_err-write_answer.ensures

pub image_size-size-requires : goal.image_size-size-requires
image_size-size-requires c = (c.requires, (shown _ _ _ _ c.in_ok-write_answer.ensures).rows.few)

pub all_blocks-requires : goal.all_blocks-requires
all_blocks-requires c =
    let s = shown _ _ _ _ c.in_ok-write_answer.ensures in
    (c.requires, s.rows, blocks-are _ _ c.image_size-size.ensures, omega (arith, c.image_size-size.ensures, s.fit))

pub bounds-length-0 : goal.bounds-length-0
bounds-length-0 c = (shown _ _ _ _ c.in_ok-write_answer.ensures).slot

pub returns : goal.returns
returns c =
    let f = c.args.f in
    let plan = c.args.plan.now in
    let s = shown _ _ _ _ c.in_ok-write_answer.ensures in
    let b = ap (λ x. 512 * x) (blocks-are _ _ c.image_size-size.ensures) in
    let p = c.all_blocks.ensures ∙ ap (λ x. filled x (image_byte f plan) c.args.out.now) b in
    let q = filled_more 0 (λ i. image_size f plan) c.args.length.now c.args.length.now _ 0 s.slot (sym (filled_none _ _)) c.image_size-size.ensures in
    comes-to _ _ c.in_ok-write_answer.ensures (λ j. outputs (p j) (q j))
