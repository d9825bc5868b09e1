-- The rectangles of a colour job lie in its planes: the luma window, the block, and the two of the chroma samples that count, also where they are
-- empty. Assumes nothing.
use Prim.Native.Nat.{ℕ}
use native.Mathlib.Omega.{arith}
use Rattle.planes.specs.Rects.{Within}
use Rattle.colour_words.specs.declared.ColourWords.{ColourWords}
use Rattle.colour_words.specs.Colour.{luma_rect, colour_rect}
use Rattle.colour_words.specs.Placed.{ColourPlaced}
use Rattle.colour_words.specs.Counted.{above_rect, beside_rect}

module _ (W H : ℕ) (c : ColourWords) (p : ColourPlaced W H c) where
  pub luma-in-plane : Within W H (luma_rect c)
  luma-in-plane = (p.luma-across, p.luma-down)

  pub block-in-plane : Within W H (colour_rect c)
  block-in-plane = (p.across, p.down)

  pub above-in-plane : Within W H (above_rect c)
  above-in-plane = (omega arith, omega arith)

  pub beside-in-plane : Within W H (beside_rect c)
  beside-in-plane = (omega arith, omega arith)
