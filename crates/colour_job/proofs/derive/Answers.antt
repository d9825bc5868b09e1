-- `derive` meets its contract: what the lists hold gives what the planes give. Assumes nothing.
use mathlib.Core.Path.{◌∙◌, ap}
use Rattle.numbers.specs.Colour.{the_colour}
use Rattle.colour_rules.specs.declared.block.Block.{Block}
use Rattle.colour_job.proofs.Held.{held-derived}
use Rattle.colour_job.proofs.derive.Goals as goal

pub returns : goal.returns
returns c =
    let a = c.args in
    let l = c.read_luma.ensures in
    let e = c.colour.ensures ∙ ap (λ (b : Block). the_colour b.direction) c.block-b.ensures in
    record {
      is = held-derived c.requires.0.laid a.luma.now a.chroma.now c.read_luma.new.window l.1 c.read_chroma.new.window c.read_chroma.ensures.1 _ _ _ _
          c.window.ensures e (ap (λ (b : Block). b.d) c.block-b.ensures) c.sampled.ensures;
      long = l.0;
      held = l.1;
    }
