-- `read_blocks` meets its contract: the tests, and then what they allow. Assumes nothing.
use mathlib.Core.Path.{◌≡◌, sym, ◌∙◌, ap}
use mathlib.Core.List.{List}
use Prim.Native.Nat.{ℕ, ◌*◌, ◌≤◌}
use native.Mathlib.Nat.{mul-le-mul, mul-le-mul_left}
use native.Mathlib.Omega.{arith}
use Rattle.numbers.specs.Answer.{done}
use Rattle.refusals.proofs.Promise.{passes-on, comes-to}
use Rattle.lists.specs.Fill.{filled}
use Rattle.lists.proofs.Fill.{filled_none, filled_more}
use Rattle.block_image.specs.Taken.{blocks_in, rows_of, word_at}
use Rattle.block_image.specs.Refusals.{file_answer}
use Rattle.block_image.specs.Promises.{outputs}
use Rattle.block_image.specs.Fits.{Fits}
use Rattle.block_image.specs.declared.format.Format.{Format}
use Rattle.block_image.proofs.Fits.{words-most}
use Rattle.block_image.proofs.WholeFile.{read_done, room-parts, rows_few, words-within}
use Rattle.block_reader.proofs.read.read_blocks.Goals as goal

-- what a reading that is done has shown of the rows that it counts
record Shown (F : Format) (bytes : List ℕ) (room slots rows : ℕ) : Type 0 where
  small : rows * F.words ≤ 1024 * 508
  fit : rows * F.words ≤ room
  slot : 1 ≤ slots
  within : rows * F.words ≤ blocks_in bytes * (F.rows * F.words)

shown : (F : Format) (bytes : List ℕ) (room slots rows : ℕ) → Fits F → (file_answer F bytes room slots ≡ done) × (rows ≡ rows_of F bytes)
    → Shown F bytes room slots rows
shown F bytes room slots rows fit a =
    let d = read_done F bytes room slots a.0 in
    let r = room-parts _ _ _ d.1 in
    rw a.1 (record { small = mul-le-mul (rows_few F bytes d.0) (words-most F fit); fit = r.0; slot = r.1; within = words-within F bytes d.0 })

pub returns-in_err-count : goal.returns-in_err-count
returns-in_err-count c = passes-on _ _ _ c.from_residual.ensures.1 (sym c.in_err-count.ensures.refused)

pub overflow_mul-count : goal.overflow_mul-count
overflow_mul-count c = let s = shown _ _ _ _ _ c.requires c.in_ok-count.ensures.accepted in omega (arith, s.small)

pub take_plan-requires : goal.take_plan-requires
take_plan-requires c =
    let f = c.args.f in
    let s = shown _ _ _ _ _ c.requires c.in_ok-count.ensures.accepted in (
      omega (arith, mul-le-mul_left {m = 1} {n = f.words} f.rows c.requires.some_words, c.requires.some-rows),
      omega (arith, c.requires.fills),
      s.fit,
      s.within,
    )

pub bounds-rows-0 : goal.bounds-rows-0
bounds-rows-0 c = (shown _ _ _ _ _ c.requires c.in_ok-count.ensures.accepted).slot

pub returns : goal.returns
returns c =
    let a = c.in_ok-count.ensures.accepted in
    let s = shown _ _ _ _ _ c.requires a in
    let p = c.take_plan.ensures ∙ ap (λ x. filled (x * c.args.f.words) (word_at c.args.f c.args.bytes.now) c.args.plan.now) a.1 in
    let q = filled_more 0 (λ i. rows_of c.args.f c.args.bytes.now) c.args.rows.now c.args.rows.now _ 0 s.slot (sym (filled_none _ _)) a.1 in
    comes-to _ _ (sym a.0) (λ j. outputs (p j) (q j))
