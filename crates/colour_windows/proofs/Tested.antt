-- What the tests of the windows have shown of each sample. Assumes nothing.
use mathlib.Core.Path.{◌≡◌, sym, ◌∙◌, ap}
use mathlib.Core.Bool.{Bool, true, false, ◌&&◌}
use mathlib.Core.List.{List}
use mathlib.Core.Logic.{⊎_elim}
use Prim.Native.Nat.{ℕ, suc, ◌+◌, ◌-◌, ◌*◌, ◌<◌}
use native.Mathlib.Omega.{arith}
use lib.IntN.{ℤ, pos}
use lib.Ieee.{Float, nan}
use lib.ListN.{get_or}
use Rattle.numbers.specs.Depth.{is_depth, most}
use Rattle.signed.specs.Range.{inside}
use Rattle.signed.proofs.Range.{and_both, pos-inside}
use Rattle.samples.specs.Sample.{is_sample, Readable}
use Rattle.edge_line.specs.Every.{every}
use Rattle.edge_line.proofs.Every.{every-at, every-all, every-same, both_ways, and-of}
use Rattle.plane_windows.specs.declared.patch.Patch.{Patch}
use Rattle.plane_windows.specs.Lies.{place_at}
use Rattle.plane_windows.specs.Widened.{Inside}
use Rattle.colour_terms.proofs.Most.{most-all}
use Rattle.colour_sums.specs.Places.{counts, walk}
use Rattle.colour_sums.specs.declared.window.Window.{Window}
use Rattle.colour_sums.proofs.Counted.{in-above, in-below}
use Rattle.colour_sums.proofs.Same.{walk-true, walk-all}
use Rattle.colour_words.specs.declared.ColourWords.{ColourWords}
use Rattle.colour_words.specs.Colour.{colour_window}
use Rattle.colour_windows.specs.Windows.{luma_ok, chroma_ok, luma_read, chroma_read}
use Rattle.colour_windows.specs.Held.{above_in, below_in}
use Rattle.colour_windows.proofs.Rects.{counted-where}

-- a place of a rectangle of a window that stands at x, y
pub moved-place : (W x y : ℕ) (p : Patch) (i j : ℕ) → place_at W (x + p.x) (y + p.y) i j ≡ place_at W x y (p.x + i) (p.y + j)
moved-place W x y p i j =
    let a : x + p.x + i ≡ x + (p.x + i) = omega arith in
    let b : y + p.y + j ≡ y + (p.y + j) = omega arith in
    λ t. b t * W + a t

-- a test of a rectangle, place by place
abbrev pub all_of : (ℕ → ℕ → Bool) → Patch → Bool
all_of q p = every (λ j. every (λ i. q (p.x + i) (p.y + j)) p.w) p.h

pub all-at : (q : ℕ → ℕ → Bool) (p : Patch) → all_of q p ≡ true → (i j : ℕ) → Inside p i j → q i j ≡ true
all-at q p e i j h =
    let a : p.x + (i - p.x) ≡ i = omega arith in
    let b : p.y + (j - p.y) ≡ j = omega arith in
    (λ t. q (sym a t) (sym b t))
    ∙ every-at (λ k. q (p.x + k) (p.y + (j - p.y))) p.w
    (every-at (λ r. every (λ k. q (p.x + k) (p.y + r)) p.w) p.h e (j - p.y) (omega arith)) (i - p.x) (omega arith)

-- ---- a test of the places that count is a test of both their rectangles
module _ (w : Window) (q : ℕ → ℕ → Bool) where
  abbrev walked : Bool
  walked = walk w (λ x y ok. ok && q x y) true

  one : (p : Patch) → ((i j : ℕ) → i < p.w → j < p.h → counts w (p.x + i) (p.y + j) ≡ true) → walked ≡ true → all_of q p ≡ true
  one p inner e = every-all _ p.h (λ j b. every-all _ p.w (λ i a. walk-true w q e (p.x + i) (p.y + j) (inner i j a b)))

  pub walk-both : walked ≡ (all_of q (above_in w) && all_of q (below_in w))
  walk-both = both_ways walked (all_of q (above_in w) && all_of q (below_in w)) there back
    where
      above : (i j : ℕ) → i < (above_in w).w → j < (above_in w).h → counts w (1 + i) (1 + j) ≡ true
      above i j a b =
          let x : 1 + i ≡ suc i = omega arith in
          let y : 1 + j ≡ suc j = omega arith in
          (λ t. counts w (x t) (y t)) ∙ in-above w j i b a

      below : (i j : ℕ) → i < (below_in w).w → j < (below_in w).h → counts w (1 + i) ((below_in w).y + j) ≡ true
      below i j a b =
          let r = (below_in w).y + j - 1 in
          let x : 1 + i ≡ suc i = omega arith in
          let y : (below_in w).y + j ≡ suc r = omega arith in
          (λ t. counts w (x t) (y t)) ∙ in-below w r i (omega arith) a

      there : walked ≡ true → (all_of q (above_in w) && all_of q (below_in w)) ≡ true
      there e = and-of _ _ (one (above_in w) above e) (one (below_in w) below e)

      back : (all_of q (above_in w) && all_of q (below_in w)) ≡ true → walked ≡ true
      back e =
          let p = and_both (all_of q (above_in w)) (all_of q (below_in w)) e in
          walk-all w q (λ x y k. ⊎_elim (all-at q (above_in w) p.0 x y) (all-at q (below_in w) p.1 x y) (counted-where w x y k))

-- ---- the two windows
module _ (W : ℕ) (c : ColourWords) where
  pub luma-at : (luma : List Float) → luma_read W c luma ≡ true → (i j : ℕ) → i < c.ref_width → j < c.ref_height → luma_ok W c luma i j ≡ true
  unfolding luma_read
  luma-at luma e i j a b =
      every-at (λ k. luma_ok W c luma k j) c.ref_width (every-at (λ r. every (λ k. luma_ok W c luma k r) c.ref_width)
      c.ref_height e j b) i a

  pub chroma-read-is : (chroma : List Float)
      → chroma_read W c chroma ≡ (all_of (chroma_ok W c chroma) (above_in (colour_window c)) && all_of (chroma_ok W c chroma) (below_in (colour_window c)))
  unfolding chroma_read
  chroma-read-is chroma = walk-both (colour_window c) (chroma_ok W c chroma)

  -- so it is refused by the first, and otherwise told by the second
  module _ (chroma : List Float) (first : Bool) (is : first ≡ all_of (chroma_ok W c chroma) (above_in (colour_window c))) where
    pub chroma-refused : first ≡ false → false ≡ chroma_read W c chroma
    chroma-refused e = sym (chroma-read-is chroma ∙ ap (λ b. b && all_of (chroma_ok W c chroma) (below_in (colour_window c))) (sym is ∙ e))

    pub chroma-told : first ≡ true → (second : Bool) → second ≡ all_of (chroma_ok W c chroma) (below_in (colour_window c))
        → second ≡ chroma_read W c chroma
    chroma-told e second t = t ∙ sym (chroma-read-is chroma ∙ ap (λ b. b && all_of (chroma_ok W c chroma) (below_in (colour_window c))) (sym is ∙ e))

  pub chroma-at : (chroma : List Float) → chroma_read W c chroma ≡ true → (i j : ℕ) → counts (colour_window c) i j ≡ true
      → chroma_ok W c chroma i j ≡ true
  unfolding chroma_read
  chroma-at chroma e i j k = walk-true (colour_window c) (chroma_ok W c chroma) e i j k

-- a sample that passed can be read
pub readable : (D : ℕ) (v : Float) → is_depth D ≡ true → is_sample (pos (most D)) v ≡ true → Readable v
readable D v d e = record { depth = D; is = d; in-range = e }

-- the same of a test's bound
pub most-in : (D : ℕ) (m : ℤ) → is_depth D ≡ true → m ≡ pos (most D) → inside (pos 4095) m ≡ true
most-in D m d e = rw e (pos-inside 4095 (most D) (most-all D d).1)

-- a rectangle of a window, as one of the plane in which the window stands at x, y
pub moved_all : (q : ℕ → Bool) (W x y : ℕ) (p : Patch)
    → every (λ j. every (λ i. q (place_at W (x + p.x) (y + p.y) i j)) p.w) p.h ≡ all_of (λ i j. q (place_at W x y i j)) p
moved_all q W x y p = every-same _ _ p.h (λ j b. every-same _ _ p.w (λ i a. ap q (moved-place W x y p i j)))

-- so a test of such a rectangle is one of the window's
pub moved_told : (W : ℕ) (c : ColourWords) (chroma : List Float) (p : Patch) (m : ℤ) (r : Patch) → m ≡ pos (most c.d)
    → r ≡ record { x = c.x - c.left_lines + p.x; y = c.y - c.above_lines + p.y; w = p.w; h = p.h }
    → (t : Bool) → t ≡ every (λ j. every (λ i. is_sample m (get_or chroma (place_at W r.x r.y i j) nan)) r.w) r.h
    → t ≡ all_of (chroma_ok W c chroma) p
moved_told W c chroma p m r e d t h =
    h
    ∙ (λ k. every (λ j. every (λ i. is_sample (e k) (get_or chroma (place_at W (d k).x (d k).y i j) nan)) (d k).w) (d k).h)
    ∙ moved_all (λ q. is_sample (pos (most c.d)) (get_or chroma q nan)) W (c.x - c.left_lines) (c.y - c.above_lines) p
