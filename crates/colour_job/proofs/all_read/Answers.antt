-- `all_read` meets its contract. Assumes nothing.
use mathlib.Core.Path.{sym, ◌∙◌, ap, subst}
use mathlib.Core.Bool.{◌&&◌}
use Prim.Native.Nat.{ℕ}
use mir.Syntax.{w32}
use Rattle.signed.proofs.Bound.{back}
use Rattle.colour_words.specs.Placed.{ColourLaid}
use Rattle.colour_windows.specs.Windows.{chroma_read}
use Rattle.colour_job.proofs.all_read.Goals as goal

pub returns-then-not-luma_read : goal.returns-then-not-luma_read
returns-then-not-luma_read c =
    let a = c.args in
    sym (ap (λ b. b && chroma_read a.width a.c a.chroma.now) (sym c.luma_read.ensures ∙ c.if-not-luma_read.true))

pub chroma_read-requires : goal.chroma_read-requires
chroma_read-requires c =
    let a = c.args in
    (subst (λ (n : ℕ). ColourLaid n a.width a.c) (sym c.requires.1) c.requires.0, back w32 c.ranges.m ∙ c.requires.2)

pub returns : goal.returns
returns c =
    let a = c.args in
    c.chroma_read.ensures ∙ sym (ap (λ b. b && chroma_read a.width a.c a.chroma.now) (sym c.luma_read.ensures ∙ c.if-not-luma_read.false))
