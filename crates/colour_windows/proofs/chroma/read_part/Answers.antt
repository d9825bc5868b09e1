-- `read_part` meets its contract: the rectangle is read from where the window stands. Assumes nothing.
use mathlib.Core.Path.{◌≡◌, sym, ◌∙◌, ap, subst}
use mathlib.Core.List.{List}
use Prim.Native.Nat.{ℕ, ◌+◌, ◌-◌, ◌<◌}
use native.Mathlib.Nat.{one-mul}
use native.Mathlib.Omega.{arith}
use lib.IntN.{pos}
use lib.Ieee.{Float, nan}
use lib.ListN.{get_or}
use Rattle.signed.proofs.Range.{pos-inside}
use Rattle.samples.specs.Sample.{reading, Readable}
use Rattle.plane_windows.specs.declared.patch.Patch.{Patch}
use Rattle.plane_windows.specs.Lies.{place_at, Lies}
use Rattle.plane_windows.specs.Into.{read_at}
use Rattle.colour_words.specs.declared.ColourWords.{ColourWords}
use Rattle.colour_words.specs.Colour.{chroma_place}
use Rattle.colour_words.specs.Placed.{ColourLaid}
use Rattle.colour_windows.specs.Windows.{chroma_in}
use Rattle.colour_windows.specs.Held.{PatchInWindow, Sampled}
use Rattle.colour_windows.proofs.Rects.{chroma-lies, in_rows}
use Rattle.colour_windows.proofs.Tested.{readable, moved-place}
use Rattle.colour_windows.proofs.Read.{into-as}
use Rattle.colour_windows.proofs.chroma.read_part.Goals as goal

-- what is asked of where the window stands, by any name of its place
asked : {size W : ℕ} {c : ColourWords} (l : ColourLaid size W c) (p : Patch) (h : PatchInWindow c p) (chroma : List Float)
    → Sampled c p (λ i j. get_or chroma (chroma_place W c i j) nan)
    → (x y : ℕ) → x ≡ c.x - c.left_lines → y ≡ c.y - c.above_lines
    → Lies size W (x + p.x) (y + p.y) p.w p.h
    × ((i j : ℕ) → i < p.w → j < p.h → Readable (get_or chroma (place_at W (x + p.x) (y + p.y) i j) nan))
asked {W = W} {c = c} l p h chroma all x y e d = rw (e, d) (chroma-lies l p h, can-read)
  where
    can-read : (i j : ℕ) → i < p.w → j < p.h
        → Readable (get_or chroma (place_at W (c.x - c.left_lines + p.x) (c.y - c.above_lines + p.y) i j) nan)
    can-read i j a b =
        subst (λ q. Readable (get_or chroma q nan)) (sym (moved-place W (c.x - c.left_lines) (c.y - c.above_lines) p i j))
        (readable c.d _ l.placed.is-depth (all (p.x + i) (p.y + j) (omega arith, omega arith, omega arith, omega arith)))

pub read_patch-requires : goal.read_patch-requires
read_patch-requires c =
    let a = c.args in
    let p = c.requires in
    let g = asked p.0 a.p p.2 a.chroma.now p.3 c.chroma_x-x.result c.chroma_y-y.result c.chroma_x-x.ensures c.chroma_y-y.ensures in
    record { lies = (g.0, in_rows p.0 a.p p.2 p.1); times_value = (pos-inside 8 1 (omega arith), g.1) }

pub returns : goal.returns
returns c =
    let a = c.args in
    into-as (read_at 1 a.width c.chroma_x-x.result c.chroma_y-y.result a.chroma.now) (chroma_in a.width a.c a.chroma.now)
    (λ i j. ap pos (one-mul _) ∙ (λ t. pos (reading (get_or a.chroma.now (place_at a.width (c.chroma_x-x.ensures t) (c.chroma_y-y.ensures t) i j) nan))))
    c.read_patch.ensures
