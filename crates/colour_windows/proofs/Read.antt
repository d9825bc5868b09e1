-- Rectangles of a window that are read one after the other: what the list has then at the places that count, and at those that the block needs.
-- Assumes nothing.
use mathlib.Core.Path.{◌≡◌, refl, sym, ◌∙◌, ap, subst}
use mathlib.Core.Bool.{Bool, true, false, cond, ◌&&◌}
use mathlib.Core.List.{List}
use mathlib.Core.Logic.{◌⊎◌, inl, inr}
use Prim.Native.Nat.{ℕ, ◌+◌, ◌-◌, ◌≤◌, ◌<◌}
use native.Mathlib.Omega.{arith}
use lib.Dec.{ltb}
use lib.IntN.{ℤ}
use borrow.Author.Tests.{ltb-false}
use Rattle.numbers.specs.Colour.{the_colour, rows_up, columns_left}
use Rattle.plane_windows.specs.declared.patch.Patch.{Patch}
use Rattle.plane_windows.specs.Into.{Into}
use Rattle.plane_windows.specs.Widened.{Inside}
use Rattle.colour_terms.specs.Terms.{stride, entry}
use Rattle.colour_sums.specs.Places.{counts}
use Rattle.colour_sums.proofs.Counted.{counted}
use Rattle.colour_rules.specs.Needed.{before, direction_at}
use Rattle.colour_rules.specs.Area.{up_of, beside_of}
use Rattle.colour_rules.proofs.Before.{rows-one, columns-one}
use Rattle.colour_rules.proofs.Bounds.{reach}
use Rattle.colour_words.specs.declared.ColourWords.{ColourWords}
use Rattle.colour_words.specs.Colour.{colour_window, colour_block}
use Rattle.colour_words.specs.Placed.{ColourLaid}
use Rattle.colour_windows.specs.Held.{above_in, below_in, block_in, Around, ChromaHeld, Counted, LumaHeld}
use Rattle.colour_windows.proofs.Rects.{counted-where}

-- ---- one rectangle
pub into-at : {f : ℕ → ℕ → ℤ} (p : Patch) {xs ys : List ℤ} → Into f p.x p.y p.w p.h xs ys → (i j : ℕ) → Inside p i j → entry ys i j ≡ f i j
into-at p g i j h = g.there i j h.0 h.1 h.2 h.3

-- by another name of f
pub into-as : (f g : ℕ → ℕ → ℤ) {x y w h : ℕ} {xs ys : List ℤ} → ((i j : ℕ) → f i j ≡ g i j) → Into f x y w h xs ys → Into g x y w h xs ys
into-as f g same t = record {
  long = t.long;
  there = λ i j a b c d. t.there i j a b c d ∙ same i j;
  kept = λ i j a e. t.kept i j a (e ∙ sym (same i j)) ∙ same i j;
}

module _ {f : ℕ → ℕ → ℤ} {p : Patch} {up left : ℕ} {xs ys : List ℤ} (g : Around f p up left xs ys) where
  centre-at : (i j : ℕ) → Inside p i j → entry ys i j ≡ f i j
  centre-at i j h = into-at g.r g.into i j (g.wider.centre i j h)

  behind-at : (i j : ℕ) → Inside p i j → entry ys (i - left) (j - up) ≡ f (i - left) (j - up)
  behind-at i j h = into-at g.r g.into (i - left) (j - up) (g.wider.behind i j h)

-- ---- the places that count
-- such a place lies in a row of the list
near-left : {size W : ℕ} {c : ColourWords} → ColourLaid size W c → (x y : ℕ) → counts (colour_window c) x y ≡ true → x < stride
near-left {c = c} l x y k = omega (arith, counted (colour_window c) x y k, l.placed.window-wide)

module _ {size W : ℕ} {c : ColourWords} (l : ColourLaid size W c) {f : ℕ → ℕ → ℤ} {xs ys zs : List ℤ} where
  pub chroma-held : (p q : Patch) → p ≡ above_in (colour_window c) → q ≡ below_in (colour_window c)
      → Into f p.x p.y p.w p.h xs ys → Into f q.x q.y q.w q.h ys zs → ChromaHeld c f zs
  chroma-held p q e d a b x y k = go (counted-where (colour_window c) x y k)
    where
      go : Inside (above_in (colour_window c)) x y ⊎ Inside (below_in (colour_window c)) x y → entry zs x y ≡ f x y
      go (inl h) = b.kept x y (near-left l x y k) (into-at p a x y (rw e h))
      go (inr h) = into-at q b x y (rw d h)

  pub counted-held : (p q : Patch) (up left : ℕ) → p ≡ above_in (colour_window c) → q ≡ below_in (colour_window c)
      → up ≡ rows_up (the_colour c.direction) → left ≡ columns_left (the_colour c.direction)
      → Around f p up left xs ys → Around f q up left ys zs → Counted c f xs zs
  counted-held p q up left e d u v a b = record {
    long = b.into.long ∙ a.into.long;
    centre = λ x y k. at x y k (counted-where (colour_window c) x y k);
    way = λ x y k.
        subst (λ (s : ℕ). entry zs (x - s) (y - rows_up (the_colour c.direction)) ≡ f (x - s) (y - rows_up (the_colour c.direction))) v
        (subst (λ (s : ℕ). entry zs (x - left) (y - s) ≡ f (x - left) (y - s)) u (back x y k (counted-where (colour_window c) x y k)));
  }
    where
      at : (x y : ℕ) → counts (colour_window c) x y ≡ true → Inside (above_in (colour_window c)) x y ⊎ Inside (below_in (colour_window c)) x y
          → entry zs x y ≡ f x y
      at x y k (inl h) = b.into.kept x y (near-left l x y k) (centre-at a x y (rw e h))
      at x y k (inr h) = centre-at b x y (rw d h)

      back : (x y : ℕ) → counts (colour_window c) x y ≡ true → Inside (above_in (colour_window c)) x y ⊎ Inside (below_in (colour_window c)) x y
          → entry zs (x - left) (y - up) ≡ f (x - left) (y - up)
      back x y k (inl h) = b.into.kept (x - left) (y - up) (omega (arith, near-left l x y k)) (behind-at a x y (rw e h))
      back x y k (inr h) = behind-at b x y (rw d h)

-- ---- and what the block needs
-- the line that a direction takes is the block's, or one that is there before it
pub before-in : (there : Bool) (start back k n : ℕ) → back ≤ 1 → (there ≡ true → 1 ≤ start) → k < n
    → (start - reach there back ≤ before there start back k) × (before there start back k < start + n)
before-in true start back k n one h l = go (ltb k back)
  where
    go : (t : Bool) → (start - back ≤ cond (t && false) (start + k) (start + k - back)) × (cond (t && false) (start + k) (start + k - back) < start + n)
    go true = (omega arith, omega (arith, h refl))
    go false = (omega arith, omega (arith, h refl))
before-in false start back k n one h l = go (ltb k back) refl
  where
    go : (t : Bool) → ltb k back ≡ t → (start - 0 ≤ cond (t && true) (start + k) (start + k - back))
        × (cond (t && true) (start + k) (start + k - back) < start + n)
    go true e = (omega arith, omega arith)
    go false e = let m = ltb-false k back e in (omega arith, omega arith)

module _ {size W : ℕ} {c : ColourWords} (l : ColourLaid size W c) {f : ℕ → ℕ → ℤ} {ys zs : List ℤ} where
  pub luma-held : (xs : List ℤ) (p : Patch) (up left : ℕ) → p ≡ block_in c → up ≡ up_of (colour_block c) → left ≡ beside_of (colour_block c)
      → Counted c f xs ys → Around f p up left ys zs → LumaHeld c f zs
  unfolding direction_at up_of beside_of
  luma-held xs p up left e u v a b = record {
    centre = λ x y k. b.into.kept x y (near-left l x y k) (a.centre x y k);
    way = λ x y k. b.into.kept _ _ (omega (arith, near-left l x y k)) (a.way x y k);
    own = λ i j h k. centre-at b (c.left_lines + i) (c.above_lines + j) (rw e (omega arith, omega arith, omega arith, omega arith));
    near = λ i j h k. into-at b.r b.into _ _ (needs i j h k);
  }
    where
      corner : Inside b.r (c.left_lines - left) (c.above_lines - up)
      corner =
          let w = l.placed.wide in
          let h = l.placed.high in
          b.wider.behind c.left_lines c.above_lines (rw e (omega arith, omega arith, omega arith, omega arith))

      needs : (i j : ℕ) → i < c.width → j < c.height → Inside b.r (direction_at (colour_block c) i j).x (direction_at (colour_block c) i j).y
      needs i j h k =
          let d = the_colour c.direction in
          let x = before-in c.have_left c.left_lines (columns_left d) i c.width (columns-one d) l.placed.side h in
          let y = before-in c.have_top c.above_lines (rows_up d) j c.height (rows-one d) l.placed.top k in
          let r : b.r.x + b.r.w ≡ c.left_lines + c.width = b.wider.right ∙ ap (λ (q : Patch). q.x + q.w) e in
          let s : b.r.y + b.r.h ≡ c.above_lines + c.height = b.wider.bottom ∙ ap (λ (q : Patch). q.y + q.h) e in
          (omega (arith, corner, v), omega arith, omega (arith, corner, u), omega arith)
