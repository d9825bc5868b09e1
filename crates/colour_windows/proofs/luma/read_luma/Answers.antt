-- `read_luma` meets its contract: the block's rectangle is read after those of the places that count, which keep what they have. Assumes nothing.
use mathlib.Core.Path.{◌≡◌, ◌∙◌, ap}
use native.Mathlib.Omega.{arith}
use Rattle.colour_rules.specs.Area.{up_of, beside_of}
use Rattle.colour_rules.proofs.Bounds.{up-most, beside-most}
use Rattle.colour_words.specs.Colour.{colour_block}
use Rattle.colour_windows.proofs.Rects.{block-in, in-reference}
use Rattle.colour_windows.proofs.Read.{luma-held}
use Rattle.colour_windows.proofs.luma.read_luma.Goals as goal

pub read_around-requires-clause-patch_in_window : goal.read_around-requires-clause-patch_in_window
read_around-requires-clause-patch_in_window c =
    let b = colour_block c.args.c in
    let g = in-reference c.requires.0 c.requires.1 in
    let up : c.up_of-up.result ≡ up_of b = c.up_of-up.ensures ∙ ap up_of c.block-b.ensures in
    let left : c.beside_of-left.result ≡ beside_of b = c.beside_of-left.ensures ∙ ap beside_of c.block-b.ensures in
    rw c.block_in.ensures (block-in c.requires.0, omega (arith, left, beside-most b _ g), omega (arith, up, up-most b _ g))

pub returns : goal.returns
returns c =
    let up = c.up_of-up.ensures ∙ ap up_of c.block-b.ensures in
    let left = c.beside_of-left.ensures ∙ ap beside_of c.block-b.ensures in
    let one = c.read_counted.ensures in
    let two = c.read_around.ensures in
    (two.into.long ∙ one.long, luma-held c.requires.0 _ _ _ _ c.block_in.ensures up left one two)
