-- `one_block` meets its contract: the words of block k are lent, and what is made of them is the image's block. Assumes nothing.
use mathlib.Core.Path.{◌≡◌, ◌∙◌, ap}
use Prim.Native.Nat.{ℕ, ◌+◌, ◌-◌, ◌*◌, ◌≤◌, ◌<◌}
use native.Mathlib.Nat.{mul-le-mul, mul-le-mul_left, mul-le-mul_right}
use native.Mathlib.Omega.{arith}
use lib.ListN.{length, take, drop, length-take, length-drop}
use Rattle.lists.specs.Fill.{tab}
use Rattle.lists.proofs.Fill.{tab-same}
use Rattle.block_image.specs.Image.{used_in}
use Rattle.block_image.proofs.Fits.{words-most}
use Rattle.block_image.proofs.Counted.{begins, used-most}
use Rattle.block_writer.specs.Made.{made_byte}
use Rattle.block_writer.proofs.Image.{block_words, block-is}
use Rattle.block_writer.proofs.write.one_block.Goals as goal
use Rattle.block_writer.proofs.write.one_block.Lts as lts
use Rattle.block_writer.proofs.write.one_block.Reads as reads
use Rattle.block_writer.proofs.write.one_block.Tie as tie

abbrev At-Start : Type 0
At-Start = lts.Start tie.the-claims reads.Pre reads.Post

abbrev At-After-min-used : Type 0
At-After-min-used = lts.After-min tie.the-claims reads.Pre reads.Post

module _ (s : At-Start) where
  before : s.args.k * s.args.f.rows < s.args.n
  before = begins s.args.f s.requires.0 s.args.n s.args.k s.requires.2

  few : s.args.n ≤ 1024
  few = s.requires.1.few

  low : s.args.k ≤ 1024
  low = omega (arith, before, few, mul-le-mul_left {m = 1} {n = s.args.f.rows} s.args.k s.requires.0.some-rows)

  size : length s.args.plan.now ≤ 1024 * 508
  size = omega (arith, s.requires.1.whole, mul-le-mul few (words-most s.args.f s.requires.0))

  room : s.args.k * s.args.f.rows * s.args.f.words + used_in s.args.f s.args.n s.args.k * s.args.f.words ≤ length s.args.plan.now
  room = block_words s.args.f s.requires.0 s.args.plan.now s.args.n s.requires.1 s.args.k s.requires.2

module _ (m : At-After-min-used) where
  abbrev s1 : At-Start
  s1 = m.before.before.before.before

  used-is : m.min-used.result ≡ used_in s1.args.f s1.args.n s1.args.k
  used-is = m.min-used.ensures

  used-words : m.min-used.result * s1.args.f.words ≡ used_in s1.args.f s1.args.n s1.args.k * s1.args.f.words
  used-words = ap (λ (x : ℕ). x * s1.args.f.words) used-is

  fits : used_in s1.args.f s1.args.n s1.args.k * s1.args.f.words ≤ s1.args.f.rows * s1.args.f.words
  fits = mul-le-mul_right s1.args.f.words (used-most s1.args.f s1.requires.0 s1.args.n s1.args.k)

pub overflow_mul-before : goal.overflow_mul-before
overflow_mul-before c = let s = c.before.before.before.before in omega (arith, before s, few s)

pub overflow_sub-n : goal.overflow_sub-n
overflow_sub-n c = omega (arith, before c.before.before.before.before)

pub overflow_mul-start : goal.overflow_mul-start
overflow_mul-start c = let s = c.before.before.before.before.before.before in omega (arith, room s, size s)

pub overflow_mul-end : goal.overflow_mul-end
overflow_mul-end c = let m = c.before.before.before in omega (arith, used-words m, room (s1 m), size (s1 m))

pub overflow_add-end : goal.overflow_add-end
overflow_add-end c = let m = c.before.before.before in omega (arith, used-words m, room (s1 m), size (s1 m))

pub overflow_cast-k : goal.overflow_cast-k
overflow_cast-k c = let m = c.before.before.before in omega (arith, low (s1 m))

pub offset_bounds-plan-start : goal.offset_bounds-plan-start
offset_bounds-plan-start c = let m = c.before.before.before.before in omega (arith, room (s1 m), size (s1 m))

pub slice_bounds-make_block-end : goal.slice_bounds-make_block-end
slice_bounds-make_block-end c = let m = c.before.before.before.before in omega (arith, used-words m, room (s1 m))

pub make_block-requires : goal.make_block-requires
make_block-requires c =
    let m = c.before.before.before.before.before.before in
    let s = s1 m in
    (omega arith, simp (length-take, length-drop) (omega (arith, used-words m, fits m, room s, s.requires.0.fills)), s.requires.3)

pub returns : goal.returns
returns c =
    let m = c.before.before.before.before.before.before.before.before.before in
    let s = s1 m in
    let start = s.args.k * s.args.f.rows * s.args.f.words in
    c.make_block.ensures
    ∙ ap (λ (x : ℕ). tab (length s.args.part.now) (made_byte s.args.k x (8 + s.args.f.zeros) (take (start + x * s.args.f.words - start) (drop start s.args.plan.now)))) (used-is m)
    ∙ tab-same _ _ _ (λ b h. block-is s.args.f s.requires.0 s.args.plan.now s.args.n s.requires.1 s.args.k s.requires.2 b (omega (arith, s.requires.3)))
