-- Rectangles of the windows: those with the places that count, that they lie in the windows, and that what lies in a window lies in its plane and
-- in its list. Assumes nothing.
use mathlib.Core.Path.{◌≡◌}
use mathlib.Core.Bool.{Bool, true, false, ◌&&◌, ◌||◌}
use mathlib.Core.Logic.{◌⊎◌, inl, inr}
use Prim.Native.Nat.{ℕ, ◌+◌, ◌-◌, ◌*◌, ◌≤◌, ◌<◌}
use native.Mathlib.Omega.{arith}
use lib.Dec.{ltb}
use borrow.Author.Tests.{ltb-true}
use Rattle.signed.proofs.Range.{and_both}
use Rattle.edge_line.proofs.Split.{below_or}
use Rattle.plane_windows.specs.declared.patch.Patch.{Patch}
use Rattle.plane_windows.specs.Lies.{Lies, InRows}
use Rattle.plane_windows.specs.Widened.{Inside, Widened}
use Rattle.colour_terms.specs.Terms.{stride}
use Rattle.colour_sums.specs.Places.{within, counts}
use Rattle.colour_sums.specs.declared.window.Window.{Window}
use Rattle.colour_sums.proofs.Counted.{counted}
use Rattle.colour_rules.specs.Placed.{InReference}
use Rattle.colour_words.specs.declared.ColourWords.{ColourWords}
use Rattle.colour_words.specs.Colour.{colour_window, colour_block}
use Rattle.colour_words.specs.Placed.{ColourLaid}
use Rattle.colour_windows.specs.Held.{above_in, below_in, block_in, PatchInWindow}

-- ---- a place that counts is in one of two rectangles
or-either : (a b : Bool) → (a || b) ≡ true → (a ≡ true) ⊎ (b ≡ true)
or-either true b e = inl e
or-either false b e = inr e

in_lines : (w : Window) (x y : ℕ) → counts w x y ≡ true → (x < w.left_lines) ⊎ (y < w.above_lines)
unfolding counts
in_lines w x y e = go (or-either _ _ (and_both (within w.ref_width x && within w.ref_height y) _ e).1)
  where
    go : (ltb x w.left_lines ≡ true) ⊎ (ltb y w.above_lines ≡ true) → (x < w.left_lines) ⊎ (y < w.above_lines)
    go (inl t) = inl (ltb-true _ _ t)
    go (inr t) = inr (ltb-true _ _ t)

pub counted-where : (w : Window) (x y : ℕ) → counts w x y ≡ true → Inside (above_in w) x y ⊎ Inside (below_in w) x y
counted-where w x y e = go (counted w x y e) (in_lines w x y e) (below_or y w.above_lines)
  where
    go : (1 ≤ x) × (x + 1 < w.ref_width) × (1 ≤ y) × (y + 1 < w.ref_height) → (x < w.left_lines) ⊎ (y < w.above_lines)
        → (y < w.above_lines) ⊎ (w.above_lines ≤ y) → Inside (above_in w) x y ⊎ Inside (below_in w) x y
    go p s (inl l) = inl (omega arith, omega arith, omega arith, omega arith)
    go p (inl k) (inr l) = inr (omega arith, omega arith, omega arith, omega arith)
    go p (inr k) (inr l) = absurd (omega arith)

-- ---- rectangles of the windows
module _ {size W : ℕ} {c : ColourWords} (l : ColourLaid size W c) where
  pub above-in : PatchInWindow c (above_in (colour_window c))
  above-in = let p = l.placed in (omega (arith, p.block-across, p.wide), omega (arith, p.block-down, p.high))

  pub below-in : PatchInWindow c (below_in (colour_window c))
  below-in = let p = l.placed in (omega (arith, p.block-across, p.wide), omega (arith, p.block-down, p.high))

  pub block-in : PatchInWindow c (block_in c)
  block-in = (l.placed.block-across, l.placed.block-down)

  pub wider-in : {p r : Patch} {up left : ℕ} → Widened p up left r → PatchInWindow c p → PatchInWindow c r
  wider-in w h = (omega (arith, w.right, h.0), omega (arith, w.bottom, h.1))

  -- the block in its list
  pub in-reference : {n : ℕ} → c.ref_height * stride ≤ n → InReference (colour_block c) n
  in-reference long =
      let p = l.placed in
      record {
        above = p.few-above;
        left = p.few-left;
        wide = p.wide;
        high = p.high;
        across = omega (arith, p.block-across, p.window-wide);
        down = p.block-down;
        lines = p.window-high;
        long = long;
        top = p.top;
        side = p.side;
      }

  module _ (p : Patch) (h : PatchInWindow c p) where
    pub luma-lies : Lies size W (c.luma_x + p.x) (c.luma_y + p.y) p.w p.h
    luma-lies = record {
      H = l.H;
      sides = l.sides;
      whole = l.whole;
      across = omega (arith, h.0, l.placed.luma-across);
      down = omega (arith, h.1, l.placed.luma-down);
    }

    pub chroma-lies : Lies size W (c.x - c.left_lines + p.x) (c.y - c.above_lines + p.y) p.w p.h
    chroma-lies = record {
      H = l.H;
      sides = l.sides;
      whole = l.whole;
      across = omega (arith, h.0, l.placed.chroma-across);
      down = omega (arith, h.1, l.placed.chroma-down);
    }

    pub in_rows : {n : ℕ} → c.ref_height * stride ≤ n → InRows n p.x p.y p.w p.h
    in_rows room = record {
      columns = omega (arith, h.0, l.placed.window-wide);
      few = omega (arith, h.1, l.placed.window-high);
      rows = omega (arith, room, h.1);
    }
