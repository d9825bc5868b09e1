-- Rectangles by their bounds: the code's test of two of them, in signed numbers of which none is negative, is `meet_b`. Assumes nothing.
use mathlib.Core.Path.{◌≡◌, sym, ◌∙◌}
use mathlib.Core.Bool.{true, false, cond}
use mathlib.Core.List.{List}
use Prim.Native.Nat.{ℕ, ◌+◌, ◌-◌, ◌≤◌, ◌<◌, min, max}
use native.Mathlib.Decide.{dec_lt}
use native.Mathlib.Omega.{arith}
use lib.Dec.{ltb}
use lib.IntN.{ℤ, pos, nat_abs}
use lib.Signed.{lt_z, le_z}
use borrow.Author.Tests.{leb-true, lt-ltb, le-ltb}
use mir.Syntax.{w16}
use mir.Val.{SFits, to_z, of_z}
use Rattle.signed.proofs.Bound.{back}
use Rattle.reorder.specs.Rect.{Rect, meet_b}
use Rattle.rect_order.specs.Table.{rect_between, Plain}
use Rattle.rect_order.specs.Columns.{bounds_in, PlainBounds}

ltb-same : (a b c d : ℕ) → (a < b → c < d) → (b ≤ a → d ≤ c) → ltb a b ≡ ltb c d
ltb-same a b c d f g = elim (dec_lt a b) [
  | yes h ↦ rw (lt-ltb a b h, lt-ltb c d (f h))
  | no h ↦ rw (le-ltb a b (omega arith), le-ltb c d (g (omega arith)))
]

-- the larger of two firsts is below the smaller of two lasts
strip-pos : (a b c d : ℕ) → lt_z (cond (ltb a c) (pos c) (pos a)) (cond (ltb b d) (pos b) (pos d)) ≡ ltb (max a c) (min (a + (b - a)) (c + (d - c)))
strip-pos a b c d = elim (dec_lt a c) [
  | yes h ↦ elim (dec_lt b d) [
    | yes k ↦ rw (lt-ltb a c h, lt-ltb b d k) (same c b (λ l. omega arith) (λ l. omega arith))
    | no k ↦ rw (lt-ltb a c h, le-ltb b d (omega arith)) (same c d (λ l. omega arith) (λ l. omega arith))
  ]
  | no h ↦ elim (dec_lt b d) [
    | yes k ↦ rw (le-ltb a c (omega arith), lt-ltb b d k) (same a b (λ l. omega arith) (λ l. omega arith))
    | no k ↦ rw (le-ltb a c (omega arith), le-ltb b d (omega arith)) (same a d (λ l. omega arith) (λ l. omega arith))
  ]
]
  where
    same : (m n : ℕ) → (m < n → max a c < min (a + (b - a)) (c + (d - c))) → (n ≤ m → min (a + (b - a)) (c + (d - c)) ≤ max a c)
        → ltb m n ≡ ltb (max a c) (min (a + (b - a)) (c + (d - c)))
    same m n f g = ltb-same m n (max a c) (min (a + (b - a)) (c + (d - c))) f g

-- what a local of 16 bits holds
abbrev held : ℤ → ℤ
held z = to_z w16 (of_z w16 z)

-- a number that fits, and is not negative
pub record Number (z : ℤ) : Type 0 where
  pub fits : SFits w16 z
  pub plain : z ≡ pos (nat_abs z)

-- the code's test of two strips: from a up to b, and from c up to d
pub strip : (a b c d x0 x1 : ℤ) → Number a → Number b → Number c → Number d → SFits w16 x0 → SFits w16 x1
    → x0 ≡ cond (lt_z (held a) (held c)) (held c) (held a) → x1 ≡ cond (lt_z (held b) (held d)) (held b) (held d)
    → lt_z (held x0) (held x1) ≡ ltb (max (nat_abs a) (nat_abs c)) (min (nat_abs a + (nat_abs b - nat_abs a)) (nat_abs c + (nat_abs d - nat_abs c)))
strip a b c d x0 x1 na nb nc nd f0 f1 e0 e1 =
    let pa = back w16 na.fits ∙ na.plain in
    let pb = back w16 nb.fits ∙ nb.plain in
    let pc = back w16 nc.fits ∙ nc.plain in
    let pd = back w16 nd.fits ∙ nd.plain in
    (λ i. lt_z (back w16 f0 i) (back w16 f1 i))
    ∙ (λ i. lt_z (e0 i) (e1 i))
    ∙ (λ i. lt_z (cond (lt_z (pa i) (pc i)) (pc i) (pa i)) (cond (lt_z (pb i) (pd i)) (pb i) (pd i)))
    ∙ strip-pos (nat_abs a) (nat_abs b) (nat_abs c) (nat_abs d)

-- a rectangle with no column meets none
pub meets-none : (x0 x1 y0 y1 : ℤ) (B : Rect) → Number x0 → Number x1 → le_z (held x1) (held x0) ≡ true → meet_b (rect_between x0 x1 y0 y1) B ≡ false
unfolding meet_b
meets-none x0 x1 y0 y1 B n0 n1 e =
    let p0 = back w16 n0.fits ∙ n0.plain in
    let p1 = back w16 n1.fits ∙ n1.plain in
    let h = leb-true (nat_abs x1) (nat_abs x0) (sym (λ i. le_z (p1 i) (p0 i)) ∙ e) in
    rw (le-ltb (max (nat_abs x0) B.x) (min (nat_abs x0 + (nat_abs x1 - nat_abs x0)) (B.x + B.w)) (omega arith))

pub plain-bounds : (table : List ℤ) (i k : ℕ) → Plain table → PlainBounds (bounds_in table i k)
plain-bounds table i k plain = record { x0 = plain _; x1 = plain _; y0 = plain _; y1 = plain _ }
