-- `do_colour` meets its contract: the tests are 8 and then 14, and a job that passes them writes the block that its parameters give. Assumes nothing.
use Rattle.numbers.proofs.Named.{refusal-not-done}
use Rattle.refusals.proofs.Promise.{refused, passes-on, comes-to}
use Rattle.colour_job.specs.Done.{colour_done}
use Rattle.colour_job.proofs.Answers.{answer-eight, passed-eight, answer-fourteen, answer-done, painted-is}
use Rattle.colour_job.proofs.Held.{held-in-range}
use Rattle.colour_job.proofs.do_colour.Goals as goal

pub returns-then-not-all_read : goal.returns-then-not-all_read
unfolding colour_done
returns-then-not-all_read c =
    let a = c.args in
    refused _ _ (answer-eight a.width a.c a.luma.now a.chroma.now c.all_read.result c.all_read.ensures c.if-not-all_read.true) (refusal-not-done _)

pub returns-in_err-p : goal.returns-in_err-p
unfolding colour_done
returns-in_err-p c =
    let a = c.args in
    let p = passed-eight a.width a.c a.luma.now a.chroma.now c.all_read.result c.all_read.ensures c.if-not-all_read.false
    c.requires.colour_laid.0 c.requires.colour_laid.1 in
    passes-on _ _ _ c.from_residual.ensures.1 (answer-fourteen a.width a.c a.luma.now a.chroma.now p _ c.in_err-p.ensures)

pub write_block-requires-clause-c_value : goal.write_block-requires-clause-c_value
write_block-requires-clause-c_value c =
    let a = c.args in
    let p = passed-eight a.width a.c a.luma.now a.chroma.now c.all_read.result c.all_read.ensures c.if-not-all_read.false
    c.requires.colour_laid.0 c.requires.colour_laid.1 in
    held-in-range p.laid a.luma.now a.chroma.now _ c.derive.ensures.held p.luma-in p.chroma-in

pub returns : goal.returns
unfolding colour_done
returns c =
    let a = c.args in
    let p = passed-eight a.width a.c a.luma.now a.chroma.now c.all_read.result c.all_read.ensures c.if-not-all_read.false
    c.requires.colour_laid.0 c.requires.colour_laid.1 in
    let d = answer-done a.width a.c a.luma.now a.chroma.now p _ c.in_ok-p.ensures in
    comes-to _ _ d.0 (painted-is a.width a.c a.luma.now a.chroma.now p.laid _ c.derive.ensures.held _ d.1 _ c.write_block.ensures)
