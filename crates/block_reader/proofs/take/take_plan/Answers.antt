-- `take_plan` meets its contract: whole blocks, and the rest of one. Assumes nothing.
use mathlib.Core.Path.{◌≡◌, ◌∙◌, ap}
use Prim.Native.Nat.{ℕ, ◌≤◌, ◌<◌, ◌+◌, ◌*◌, ◌/◌}
use native.Mathlib.Nat.{div-mul-le_self}
use native.Mathlib.Omega.{arith}
use lib.ListN.{length, length-take, length-drop}
use Rattle.lists.specs.Fill.{filled}
use Rattle.lists.proofs.Fill.{filled-part, length-filled}
use Rattle.block_image.specs.Taken.{blocks_in, word_in}
use Rattle.block_reader.proofs.Words.{word-of-block, full-blocks, part-block, rest-few}
use Rattle.block_reader.proofs.take.take_plan.Goals as goal
use Rattle.block_reader.proofs.take.take_plan.Lts as lts
use Rattle.block_reader.proofs.take.take_plan.Reads as reads
use Rattle.block_reader.proofs.take.take_plan.Tie as tie

abbrev At-Start : Type 0
At-Start = lts.Start tie.the-claims reads.Pre reads.Post

abbrev At-Then-start-total : Type 0
At-Then-start-total = lts.Then1 tie.the-claims reads.Pre reads.Post

module _ (s : At-Start) where
  abbrev full : ℕ
  full = s.args.total / s.args.area

  abbrev word : ℕ → ℕ
  word = word_in s.args.area s.args.lead s.args.bytes.now

  within : full * s.args.area ≤ s.args.total
  within = div-mul-le_self s.args.total s.args.area

  blocks : full ≤ blocks_in s.args.bytes.now
  blocks = full-blocks s.args.area s.args.total (blocks_in s.args.bytes.now) s.requires.0 s.requires.3

  there : full * s.args.area < s.args.total → full < blocks_in s.args.bytes.now
  there = part-block s.args.area s.args.total (blocks_in s.args.bytes.now) s.requires.0 s.requires.3

  few : s.args.total < full * s.args.area + s.args.area
  few = rest-few s.args.area s.args.total (blocks_in s.args.bytes.now) s.requires.0 s.requires.3

abbrev start : At-Then-start-total → At-Start
start c = c.before.before.before.before.before.before.before

pub overflow_mul-start : goal.overflow_mul-start
overflow_mul-start c = let s = c.before.before.before in omega (arith, within s)

pub take_full-requires : goal.take_full-requires
take_full-requires c = let s = c.before.before.before.before in (s.requires.1, blocks s, omega (arith, within s, s.requires.2))

pub overflow_mul-full : goal.overflow_mul-full
overflow_mul-full c = let s = start c.before in omega (arith, there s c.if-start-total.true)

pub overflow_add-full : goal.overflow_add-full
overflow_add-full c = let s = start c.before in omega (arith, there s c.if-start-total.true, s.requires.1)

pub take_words-requires : goal.take_words-requires
take_words-requires c =
    let i = c.before.before in
    let s = start i in
    simp (length-take, length-drop) (omega (arith, there s i.if-start-total.true, few s, s.requires.1))

pub returns-then-start-total : goal.returns-then-start-total
returns-then-start-total c =
    let i = c.before.before.before.before.before in
    let s = start i in
    let f = i.take_full.ensures in
    let l = ap length f ∙ length-filled (full s * s.args.area) (word s) s.args.plan.now (omega (arith, within s, s.requires.2)) in
    filled-part (full s * s.args.area) s.args.total (word s) _ _ _ _ (omega (arith, within s)) (omega (arith, s.requires.2, l))
    f c.take_words.ensures
    (λ j h. word-of-block s.args.area s.args.lead s.args.bytes.now (full s) j (omega (arith, few s)))

pub returns-else-start-total : goal.returns-else-start-total
returns-else-start-total c =
    let f = c.before.before.before.before in
    let s = f.before.before.before.before in
    let e : full s * s.args.area ≡ s.args.total = omega (arith, c.if-start-total.false, within s) in
    f.take_full.ensures ∙ ap (λ (x : ℕ). filled x (word s) s.args.plan.now) e
