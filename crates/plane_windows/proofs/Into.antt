-- A rectangle that is read into a list row after row, as a loop reads it; and a reading so many times. Assumes nothing.
use mathlib.Core.Path.{◌≡◌, refl, sym, ◌∙◌, ap}
use mathlib.Core.Bool.{true}
use mathlib.Core.List.{List}
use mathlib.Core.Logic.{◌⊎◌, inl, inr}
use Prim.Native.Nat.{ℕ, ◌+◌, ◌-◌, ◌*◌, ◌≤◌, ◌<◌}
use native.Mathlib.Nat.{mul-le-mul}
use native.Mathlib.Omega.{arith}
use lib.IntN.{ℤ, pos, nat_abs, ◌*ℤ◌}
use lib.ListN.{length, get_or}
use mir.Syntax.{w32}
use mir.Val.{SFits}
use borrow.Rule.Slice.PartMut.{put_mid}
use Rattle.signed.specs.Range.{inside}
use Rattle.signed.proofs.Range.{inside-abs, inside-pos}
use Rattle.signed.proofs.Bound.{sfits-abs}
use Rattle.edge_line.proofs.Split.{below_or}
use Rattle.colour_terms.specs.Terms.{stride, entry}
use Rattle.paint.proofs.Middle.{mid-length, mid-before, mid-in, mid-after}
use Rattle.plane_windows.specs.Into.{Into}

-- ---- a reading so many times
module _ (times : ℤ) (r : ℕ) (few : inside (pos 8) times ≡ true) where
  pub times-is : times *ℤ pos r ≡ pos (nat_abs times * r)
  times-is = ap (λ (z : ℤ). z *ℤ pos r) (inside-pos 8 times few)

  pub times-fit : r ≤ 4095 → SFits w32 (times *ℤ pos r)
  times-fit h = rw times-is (sfits-abs w32 (pos (nat_abs times * r)) (omega (arith, mul-le-mul (inside-abs 8 times few) h)))

-- ---- no row, and one row more, which starts at k
pub into-none : (f : ℕ → ℕ → ℤ) (x y w : ℕ) (xs : List ℤ) → Into f x y w 0 xs xs
into-none f x y w xs = record { long = refl; there = λ i j a b c d. absurd (omega arith); kept = λ i j a e. e }

module _ (f : ℕ → ℕ → ℤ) (x y w h k : ℕ) (xs ys row : List ℤ) (o : k ≡ (y + h) * stride + x) (columns : x + w ≤ stride)
    (room : k + w ≤ length ys) (n : length row ≡ w) (is : (i : ℕ) → i < w → get_or row i (pos 0) ≡ f (x + i) (y + h)) where
  abbrev new : List ℤ
  new = put_mid k w ys row

  last : (i j : ℕ) → j ≡ y + h → x ≤ i → i < x + w → entry new i j ≡ f i j
  last i j e a b =
      let p : j * stride + i ≡ k + (i - x) = omega arith in
      let q : x + (i - x) ≡ i = omega arith in
      ap (λ t. get_or new t (pos 0)) p ∙ mid-in k w ys row (i - x) (pos 0) room n (omega arith) ∙ is (i - x) (omega arith) ∙ (λ t. f (q t) (sym e t))

  -- an entry that was f's is so still
  held : (i j : ℕ) → i < stride → entry ys i j ≡ f i j → entry new i j ≡ f i j
  held i j c e = go (below_or (j * stride + i) k) (below_or (j * stride + i) (k + w))
    where
      go : (j * stride + i < k) ⊎ (k ≤ j * stride + i) → (j * stride + i < k + w) ⊎ (k + w ≤ j * stride + i) → entry new i j ≡ f i j
      go (inl l) s = mid-before k w ys row (j * stride + i) (pos 0) room l ∙ e
      go (inr l) (inr s) = mid-after k w ys row (j * stride + i) (pos 0) room n s ∙ e
      go (inr l) (inl s) = last i j (omega arith) (omega arith) (omega arith)

  pub into-row : Into f x y w h xs ys → Into f x y w (h + 1) xs new
  into-row g = record {
    long = mid-length k w ys row room n ∙ g.long;
    there = λ i j a b c d. at i j a b c d (below_or j (y + h));
    kept = λ i j c e. held i j c (g.kept i j c e);
  }
    where
      at : (i j : ℕ) → x ≤ i → i < x + w → y ≤ j → j < y + (h + 1) → (j < y + h) ⊎ (y + h ≤ j) → entry new i j ≡ f i j
      at i j a b c d (inl l) = held i j (omega arith) (g.there i j a b c l)
      at i j a b c d (inr l) = last i j (omega arith) a b
