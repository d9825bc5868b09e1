-- A part that was lent, `&mut ys[o..o + w]`, comes back as `row`: how long the list is then, and what stands before the part, in it and after it.
-- Assumes nothing.
use mathlib.Core.Path.{◌≡◌, sym, ◌∙◌, ap}
use mathlib.Core.List.{List}
use Prim.Native.Nat.{ℕ, ◌+◌, ◌-◌, ◌≤◌, ◌<◌}
use native.Mathlib.Omega.{arith}
use lib.ListN.{length, get_or, take, drop, length-append, length-take, length-drop, get_or-append}
use lib.Seq.{get_or-take, get_or-drop, get_or-append-add}
use borrow.Rule.Slice.PartMut.{put_mid}

module _ {A : Type 0} where
  pub mid-length : (o w : ℕ) (ys row : List A) → o + w ≤ length ys → length row ≡ w → length (put_mid o w ys row) ≡ length ys
  mid-length o w ys row h e = simp (length-append, length-take, length-drop) (omega arith)

  pub mid-before : (o w : ℕ) (ys row : List A) (p : ℕ) (d : A) → o + w ≤ length ys → p < o → get_or (put_mid o w ys row) p d ≡ get_or ys p d
  mid-before o w ys row p d h l = get_or-append (take o ys) _ d p (simp (length-take) (omega arith)) ∙ get_or-take o ys p d l

  pub mid-in : (o w : ℕ) (ys row : List A) (i : ℕ) (d : A) → o + w ≤ length ys → length row ≡ w → i < w
      → get_or (put_mid o w ys row) (o + i) d ≡ get_or row i d
  mid-in o w ys row i d h e l =
      let t : length (take o ys) ≡ o = simp (length-take) (omega arith) in
      ap (λ k. get_or (put_mid o w ys row) (k + i) d) (sym t) ∙ get_or-append-add (take o ys) _ i d ∙ get_or-append row _ d i (omega arith)

  pub mid-after : (o w : ℕ) (ys row : List A) (p : ℕ) (d : A) → o + w ≤ length ys → length row ≡ w → o + w ≤ p
      → get_or (put_mid o w ys row) p d ≡ get_or ys p d
  mid-after o w ys row p d h e l =
      let t : length (take o ys) ≡ o = simp (length-take) (omega arith) in
      let q : p ≡ length (take o ys) + (length row + (p - (o + w))) = omega arith in
      ap (λ k. get_or (put_mid o w ys row) k d) q
      ∙ get_or-append-add (take o ys) _ _ d ∙ get_or-append-add row _ _ d ∙ get_or-drop w (drop o ys) (p - (o + w)) d ∙ get_or-drop o ys (w + (p - (o + w))) d
      ∙ ap (λ k. get_or ys k d) (omega arith)
