-- `write_block` meets its contract: the block is predicted into `out`, and its numbers are written as samples. Assumes nothing.
use mathlib.Core.Path.{sym, ◌∙◌, ap, subst}
use Prim.Native.Nat.{◌*◌, ◌≤◌}
use native.Mathlib.Nat.{mul_comm}
use native.Mathlib.Omega.{arith}
use lib.ListN.{length}
use mir.Syntax.{w32}
use borrow.Author.Rules.{sfits_of}
use Rattle.signed.proofs.Bound.{back}
use Rattle.signed.specs.Range.{Edge}
use Rattle.colour_words.specs.Colour.{colour_block}
use Rattle.colour_job.proofs.Block.{block-length, block-edge, block-as, block-painted}
use Rattle.colour_job.proofs.write_block.Goals as goal

pub write_patch-requires-clause-w_in_bounds : goal.write_patch-requires-clause-w_in_bounds
write_patch-requires-clause-w_in_bounds c =
    let a = c.args in
    let g = c.struct_told-3-1.given in
    let out = block-as a.luma_window.now (colour_block a.c) a.p.x0 a.p.x1 a.p.x2 a.out.now _ _ _ _ _ c.block.ensures
    (back w32 {z = a.p.x0} (sfits_of g.0.1)) (back w32 {z = a.p.x1} (sfits_of g.1.0.1)) (back w32 {z = a.p.x2} (sfits_of g.1.1.0.1)) c.predict_into.ensures in
    let room : a.c.height * a.c.width ≤ length a.out.now = omega (arith, mul_comm a.c.height a.c.width, c.requires.colour_laid.2) in (
      omega (arith, room, ap length out ∙ block-length a.luma_window.now (colour_block a.c) a.p.x0 a.p.x1 a.p.x2 a.out.now room),
      subst (Edge 4095 (a.c.height * a.c.width)) (sym out)
          (block-edge a.luma_window.now (colour_block a.c) a.p.x0 a.p.x1 a.p.x2 a.out.now c.requires.colour_laid.0.placed.is-depth),
    )

pub returns : goal.returns
returns c =
    let a = c.args in
    let g = c.struct_told-3-1.given in
    let out = block-as a.luma_window.now (colour_block a.c) a.p.x0 a.p.x1 a.p.x2 a.out.now _ _ _ _ _ c.block.ensures
    (back w32 {z = a.p.x0} (sfits_of g.0.1)) (back w32 {z = a.p.x1} (sfits_of g.1.0.1)) (back w32 {z = a.p.x2} (sfits_of g.1.1.0.1)) c.predict_into.ensures in
    block-painted a.luma_window.now (colour_block a.c) a.p.x0 a.p.x1 a.p.x2 a.out.now _ a.width a.c.x a.c.y a.chroma.now _ out c.write_patch.ensures
