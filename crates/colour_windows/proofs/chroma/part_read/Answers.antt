-- `part_read` meets its contract: the rectangle is moved to where the window stands. Assumes nothing.
use mathlib.Core.Path.{◌≡◌, sym, ◌∙◌, subst}
use Prim.Native.Nat.{ℕ, ◌+◌, ◌-◌}
use lib.ListN.{length}
use mir.Syntax.{w32}
use Rattle.signed.proofs.Bound.{back}
use Rattle.plane_windows.specs.declared.patch.Patch.{Patch}
use Rattle.plane_windows.specs.Lies.{Lies}
use Rattle.colour_windows.proofs.Rects.{chroma-lies}
use Rattle.colour_windows.proofs.Tested.{most-in, moved_told}
use Rattle.colour_windows.proofs.chroma.part_read.Goals as goal

-- where the rectangle is
abbrev placed : Patch → ℕ → ℕ → Patch
placed p x y = record { x = x + p.x; y = y + p.y; w = p.w; h = p.h }

pub all_samples-requires : goal.all_samples-requires
all_samples-requires c =
    let a = c.args in
    let l = c.requires.0 in
    let moved : c.moved.result ≡ placed a.p (a.c.x - a.c.left_lines) (a.c.y - a.c.above_lines) =
    c.moved.ensures ∙ (λ j. placed a.p (c.chroma_x-x.ensures j) (c.chroma_y-y.ensures j)) in (
      subst (λ (r : Patch). Lies (length a.chroma.now) a.width r.x r.y r.w r.h) (sym moved) (chroma-lies l a.p c.requires.2),
      most-in a.c.d _ l.placed.is-depth (back w32 c.ranges.m ∙ c.requires.1),
    )

pub returns : goal.returns
returns c =
    let a = c.args in
    let moved : c.moved.result ≡ placed a.p (a.c.x - a.c.left_lines) (a.c.y - a.c.above_lines) =
    c.moved.ensures ∙ (λ j. placed a.p (c.chroma_x-x.ensures j) (c.chroma_y-y.ensures j)) in
    moved_told a.width a.c a.chroma.now a.p _ _ (back w32 c.ranges.m ∙ c.requires.1) moved _ c.all_samples.ensures
