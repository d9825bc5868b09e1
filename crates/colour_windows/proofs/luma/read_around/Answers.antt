-- `read_around` meets its contract: what is wider is in the window still. Assumes nothing.
use mathlib.Core.Path.{sym, subst}
use Prim.Native.Nat.{ℕ, ◌+◌, ◌<◌}
use native.Mathlib.Omega.{arith}
use lib.Ieee.{nan}
use lib.ListN.{get_or}
use Rattle.signed.proofs.Range.{pos-inside}
use Rattle.samples.specs.Sample.{Readable}
use Rattle.plane_windows.specs.Lies.{place_at}
use Rattle.colour_windows.specs.Held.{PatchInWindow}
use Rattle.colour_windows.proofs.Rects.{wider-in, luma-lies, in_rows}
use Rattle.colour_windows.proofs.Tested.{luma-at, readable, moved-place}
use Rattle.colour_windows.proofs.luma.read_around.Goals as goal

pub widened-requires : goal.widened-requires
widened-requires c =
    let p = c.requires.colour_laid.0.placed in
    let q = c.requires.patch_in_window in
    (q.1, q.2, omega (arith, q.0, p.window-wide), omega (arith, q.0, p.window-high))

pub read_patch-requires : goal.read_patch-requires
read_patch-requires c =
    let a = c.args in
    let r = c.widened.result in
    let l = c.requires.colour_laid.0 in
    let inside : PatchInWindow a.c r = wider-in l c.widened.ensures c.requires.patch_in_window.0 in
    let can-read : (i j : ℕ) → i < r.w → j < r.h → Readable (get_or a.luma.now (place_at a.width (a.c.luma_x + r.x) (a.c.luma_y + r.y) i j) nan) =
    λ i j h k.
    subst (λ q. Readable (get_or a.luma.now q nan)) (sym (moved-place a.width a.c.luma_x a.c.luma_y r i j))
    (readable a.c.d _ l.placed.is-depth
    (luma-at a.width a.c a.luma.now c.requires.colour_laid.2 (r.x + i) (r.y + j) (omega (arith, inside.0)) (omega (arith, inside.1)))) in
    record { lies = (luma-lies l r inside, in_rows l r inside c.requires.colour_laid.1); times_value = (pos-inside 8 _ (omega arith), can-read) }
