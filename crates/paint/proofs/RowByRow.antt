-- A rectangle that is written row after row, as a loop writes it. Assumes nothing.
use mathlib.Core.Path.{◌≡◌, sym, ◌∙◌, ap}
use mathlib.Core.Logic.{◌⊎◌, inl, inr, ⊎_elim}
use mathlib.Core.List.{List}
use Prim.Native.Nat.{ℕ, ◌+◌, ◌-◌, ◌*◌, ◌/◌, ◌%◌, ◌≤◌, ◌<◌}
use native.Mathlib.Decide.{dec_lt}
use native.Mathlib.Omega.{arith}
use lib.Arith.{digits_div, digits_mod}
use lib.Ieee.{Float, nan}
use lib.ListN.{length, get_or}
use lib.Seq.{ext_get_or}
use borrow.Rule.Slice.PartMut.{put_mid}
use Rattle.edge_line.proofs.Split.{below_or}
use Rattle.reorder.specs.Rect.{Rect, In}
use Rattle.reorder.proofs.Test.{decided}
use Rattle.reorder.proofs.Rect.{in-decides}
use Rattle.paint.specs.Painted.{painted}
use Rattle.paint.proofs.Middle.{mid-length, mid-before, mid-in, mid-after}
use Rattle.paint.proofs.Painted.{painted-length, painted-in, painted-out}

-- a rectangle of h rows
abbrev pub rows_of : ℕ → ℕ → ℕ → ℕ → Rect
rows_of x y w h = record { x = x; y = y; w = w; h = h }

module _ (W x y w : ℕ) (wide : x + w ≤ W) (f : ℕ → ℕ → Float) (plane : List Float) where
  pub painted-none : painted W (rows_of x y w 0) f plane ≡ plane
  painted-none =
      ext_get_or nan _ _ (painted-length W (rows_of x y w 0) f plane) (λ p l. painted-out W (rows_of x y w 0) f plane wide p (λ i. omega arith))

  module _ (h : ℕ) (row : List Float) (room : (y + h) * W + x + w ≤ length plane) (n : length row ≡ w) (is : (i : ℕ) → i < w → get_or row i nan ≡ f h i) where
    abbrev old : List Float
    old = painted W (rows_of x y w h) f plane

    abbrev new : List Float
    new = painted W (rows_of x y w (h + 1)) f plane

    abbrev o : ℕ
    o = (y + h) * W + x

    fits : o + w ≤ length old
    fits = omega (arith, painted-length W (rows_of x y w h) f plane)

    -- outside the new row
    beyond : (p : ℕ) → p < length plane → (In W (rows_of x y w (h + 1)) p → In W (rows_of x y w h) p) → get_or old p nan ≡ get_or new p nan
    beyond p l back = elim (decided _ _ (in-decides W (rows_of x y w h) wide p)) [
      | yes i ↦
          painted-in W (rows_of x y w h) f plane wide p l i
          ∙ sym (painted-in W (rows_of x y w (h + 1)) f plane wide p l
          (record { row = i.row; col = i.col; top = i.top; bottom = omega arith; left = i.left; right = i.right; place = i.place }))
      | no out ↦
          painted-out W (rows_of x y w h) f plane wide p out
          ∙ sym (painted-out W (rows_of x y w (h + 1)) f plane wide p (λ i. out (back i)))
    ]

    upper : (p : ℕ) → (p < o) ⊎ (o + w ≤ p) → In W (rows_of x y w (h + 1)) p → In W (rows_of x y w h) p
    upper p far i = elim (dec_lt i.row (y + h)) [
      | yes l ↦ record { row = i.row; col = i.col; top = i.top; bottom = l; left = i.left; right = i.right; place = i.place }
      | no l ↦ let e : i.row ≡ y + h = omega arith in let q : p ≡ (y + h) * W + i.col = rw e at i.place in absurd (⊎_elim (λ k. omega arith) (λ k. omega arith) far)
    ]

    within : (i : ℕ) → i < w → get_or row i nan ≡ get_or new (o + i) nan
    within i l =
        let c : x + i < W = omega arith in
        let q : o + i ≡ (y + h) * W + (x + i) = omega arith in
        let d : (o + i) / W ≡ y + h = ap (λ k. k / W) q ∙ digits_div (y + h) {m = W} {r = x + i} c in
        let m : (o + i) % W ≡ x + i = ap (λ k. k % W) q ∙ digits_mod (y + h) {m = W} {r = x + i} c in
        let a : (o + i) / W - y ≡ h = omega arith in
        let b : (o + i) % W - x ≡ i = omega arith in
        is i l ∙ sym (λ j. f (a j) (b j))
        ∙ sym (painted-in W (rows_of x y w (h + 1)) f plane wide (o + i) (omega arith)
        (record { row = y + h; col = x + i; top = omega arith; bottom = omega arith; left = omega arith; right = omega arith; place = q }))

    -- one more row is written
    pub painted-row : put_mid o w old row ≡ new
    painted-row =
        ext_get_or nan _ _ (mid-length o w old row fits n ∙ painted-length W (rows_of x y w h) f plane ∙ sym (painted-length W (rows_of x y w (h + 1)) f plane))
        (λ p l. at_place p (omega (arith, l, mid-length o w old row fits n, painted-length W (rows_of x y w h) f plane)) (below_or p o) (below_or p (o + w)))
      where
        at_place : (p : ℕ) → p < length plane → (p < o) ⊎ (o ≤ p) → (p < o + w) ⊎ (o + w ≤ p) → get_or (put_mid o w old row) p nan ≡ get_or new p nan
        at_place p l (inl k) e = mid-before o w old row p nan fits k ∙ beyond p l (upper p (inl k))
        at_place p l (inr k) (inl e) =
            let q : p ≡ o + (p - o) = omega arith in
            ap (λ t. get_or (put_mid o w old row) t nan) q ∙ mid-in o w old row (p - o) nan fits n (omega arith) ∙ within (p - o) (omega arith) ∙ ap (λ t. get_or new t nan) (sym q)
        at_place p l (inr k) (inr e) = mid-after o w old row p nan fits n e ∙ beyond p l (upper p (inr e))
