-- `whole` meets its contract: a sample's reading is at most 4095. Assumes nothing.
use native.Mathlib.Omega.{arith}
use mathlib.Core.Path.{◌≡◌, refl, sym, ◌∙◌}
use mathlib.Core.Bool.{true}
use lib.IntN.{pos}
use mir.Syntax.{w32}
use Rattle.signed.proofs.Bound.{back-abs}
use Rattle.numbers.specs.Depth.{is_depth}
use Rattle.signed.specs.Range.{inside}
use Rattle.samples.specs.Sample.{reading, Readable}
use Rattle.samples.proofs.Reading.{reading_small}
use Rattle.picture_blocks.proofs.block.whole.Goals as goal
use Rattle.picture_blocks.proofs.block.whole.Lts as lts
use Rattle.picture_blocks.proofs.block.whole.Reads as reads
use Rattle.picture_blocks.proofs.block.whole.Tie as tie

abbrev At-After-is_sample : Type 0
At-After-is_sample = lts.After-is_sample tie.the-claims reads.Pre reads.Post

pub is_sample-requires : goal.is_sample-requires
unfolding inside
is_sample-requires c = refl

can-read : (c : At-After-is_sample) → c.is_sample.result ≡ true → Readable c.args.v
unfolding is_depth
can-read c e = record { depth = 12; is = refl; in-range = sym c.is_sample.ensures ∙ e }

pub read_sample-requires : goal.read_sample-requires
read_sample-requires c = can-read c.before c.if-is_sample.true

pub overflow_cast-result : goal.overflow_cast-result
overflow_cast-result c =
    let s = c.before in
    let h = reading_small s.args.v (can-read s.before s.if-is_sample.true) in
    rw (c.read_sample.ensures, back-abs w32 (pos (reading s.args.v)) (omega arith)) (tt, record { fits = omega arith })
