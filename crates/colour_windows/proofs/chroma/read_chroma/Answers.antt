-- `read_chroma` meets its contract: the places that count are those of two rectangles. Assumes nothing.
use mathlib.Core.Path.{sym, ◌∙◌, ap, subst}
use Prim.Native.Nat.{ℕ}
use native.Mathlib.Omega.{arith}
use lib.Ieee.{Float, nan}
use lib.ListN.{get_or}
use Rattle.plane_windows.specs.declared.patch.Patch.{Patch}
use Rattle.signed.proofs.Range.{and_both}
use Rattle.colour_words.specs.Colour.{colour_window, chroma_place}
use Rattle.colour_windows.specs.Windows.{chroma_ok}
use Rattle.colour_windows.specs.Held.{above_in, below_in, PatchInWindow, Sampled}
use Rattle.colour_windows.proofs.Rects.{above-in, below-in}
use Rattle.colour_windows.proofs.Tested.{all-at, chroma-read-is}
use Rattle.colour_windows.proofs.Read.{chroma-held}
use Rattle.colour_windows.proofs.chroma.read_chroma.Goals as goal

pub read_part-requires : goal.read_part-requires
read_part-requires c =
    let a = c.args in
    let w = colour_window a.c in
    let at : ℕ → ℕ → Float = λ i j. get_or a.chroma.now (chroma_place a.width a.c i j) nan in
    let both = and_both _ _ (sym (chroma-read-is a.width a.c a.chroma.now) ∙ c.requires.2) in
    let above = c.above_in.ensures ∙ ap above_in c.window-w.ensures in (
      c.requires.0,
      c.requires.1,
      subst (PatchInWindow a.c) (sym above) (above-in c.requires.0),
      subst (λ (p : Patch). Sampled a.c p at) (sym above) (all-at (chroma_ok a.width a.c a.chroma.now) (above_in w) both.0),
    )

pub read_part-requires-2 : goal.read_part-requires-2
read_part-requires-2 c =
    let a = c.args in
    let w = colour_window a.c in
    let at : ℕ → ℕ → Float = λ i j. get_or a.chroma.now (chroma_place a.width a.c i j) nan in
    let both = and_both _ _ (sym (chroma-read-is a.width a.c a.chroma.now) ∙ c.requires.2) in
    let below = c.below_in.ensures ∙ ap below_in c.window-w.ensures in (
      c.requires.0,
      omega (arith, c.requires.1, c.read_part.ensures.long),
      subst (PatchInWindow a.c) (sym below) (below-in c.requires.0),
      subst (λ (p : Patch). Sampled a.c p at) (sym below) (all-at (chroma_ok a.width a.c a.chroma.now) (below_in w) both.1),
    )

pub returns : goal.returns
returns c =
    let above = c.above_in.ensures ∙ ap above_in c.window-w.ensures in
    let below = c.below_in.ensures ∙ ap below_in c.window-w.ensures in
    let one = c.read_part.ensures in
    let two = c.read_part-2.ensures in
    (two.long ∙ one.long, chroma-held c.requires.0 _ _ above below one two)
