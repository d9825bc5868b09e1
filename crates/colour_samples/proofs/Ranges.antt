-- Where a value that is needed stands, and how large the terms of a sample in range are, with D open. Assumes nothing.
use mathlib.Core.Path.{◌≡◌, sym, ap, subst}
use mathlib.Core.Bool.{true, ◌&&◌}
use mathlib.Core.List.{List}
use Prim.Native.Nat.{ℕ, ◌+◌, ◌-◌, ◌*◌, ◌/◌, ◌^◌, ◌≤◌, ◌<◌}
use native.Mathlib.Omega.{arith}
use lib.IntN.{ℤ, pos, nat_abs}
use lib.Dec.{T}
use lib.ListN.{get_or}
use lib.Signed.{non_neg}
use Rattle.numbers.specs.Colour.{rows_up, columns_left}
use Rattle.numbers.specs.Depth.{bits_of, most}
use Rattle.numbers.specs.declared.colour.ColourDirection.{ColourDirection}
use Rattle.numbers.specs.declared.colour.ColourDirection.TheVariants.{Centre, Above, Left}
use Rattle.numbers.specs.declared.depth.Depth.{Depth}
use Rattle.numbers.specs.declared.depth.Depth.TheVariants.{Eight, Ten, Twelve}
use mir.Syntax.{w32}
use mir.Val.{Fits}
use Rattle.signed.specs.Range.{inside}
use Rattle.signed.proofs.Range.{and_both, inside-abs, inside-pos}
use Rattle.colour_terms.specs.Terms.{entry, eighth, middle, squared}
use Rattle.signed.proofs.Naturals.{pow-le}
use Rattle.colour_terms.proofs.Most.{eighth-in, squared-in, middle-most}
use Rattle.colour_samples.specs.Sample.{direction_luma, in_range, terms}
use Rattle.colour_samples.specs.Nine.{TermsMost}
use Rattle.colour_samples.specs.Way.{behind}

-- the direction's luma of a list, by its distance from the centre
pub luma-at : (direction : ColourDirection) (luma : List ℤ) (x y : ℕ) → 1 ≤ x → 1 ≤ y
    → direction_luma direction (entry luma) x y ≡ get_or luma (y * 256 + x - behind direction) (pos 0)
luma-at Centre luma x y hx hy = ap (λ i. get_or luma i (pos 0)) (omega arith)
luma-at Above luma x y hx hy = ap (λ i. get_or luma i (pos 0)) (omega arith)
luma-at Left luma x y hx hy = ap (λ i. get_or luma i (pos 0)) (omega arith)

pub behind-most : (direction : ColourDirection) → (rows_up direction ≤ 1) × (columns_left direction ≤ 1) × (behind direction ≤ 256)
behind-most Centre = (omega arith, omega arith, omega arith)
behind-most Above = (omega arith, omega arith, omega arith)
behind-most Left = (omega arith, omega arith, omega arith)

-- what refusal 13 leaves
pub range-parts : (M : ℕ) (v c k : ℤ) → in_range M v c k ≡ true
    → (inside (pos (8 * M + 7)) v ≡ true) × (inside (pos (8 * M + 7)) c ≡ true) × (inside (pos M) k ≡ true)
unfolding in_range
range-parts M v c k e =
    let p = and_both (inside (pos (8 * M + 7)) v && inside (pos (8 * M + 7)) c) (inside (pos M) k) e in
    let q = and_both (inside (pos (8 * M + 7)) v) (inside (pos (8 * M + 7)) c) p.0 in
    (q.0, q.1, p.1)

-- the terms of a sample in range
module _ (D : ℕ) (v c : ℤ) (one : 1 ≤ D) (hv : inside (pos (8 * most D + 7)) v ≡ true) (hc : inside (pos (8 * most D + 7)) c ≡ true) where
  v-in : inside (pos (most D)) (eighth v) ≡ true
  v-in = eighth-in (most D) v hv

  c-in : inside (pos (most D)) (squared D (eighth c)) ≡ true
  c-in = squared-in D (eighth c) one (eighth-in (most D) c hc)

  -- are not below 0, so that the natural numbers of the definition are the terms themselves
  pub own_is : eighth v ≡ pos (terms D v c).own
  unfolding terms
  own_is = inside-pos (most D) (eighth v) v-in

  pub square-is : squared D (eighth c) ≡ pos (terms D v c).square
  unfolding terms
  square-is = inside-pos (most D) (squared D (eighth c)) c-in

  -- and are at most M
  pub terms-most : TermsMost (most D) (terms D v c)
  unfolding terms
  terms-most = record {
    own = inside-abs (most D) (eighth v) v-in;
    square = inside-abs (most D) (squared D (eighth c)) c-in;
    middle = middle-most D one;
  }

-- the square of a number that is not below 0
pub squared-nat : (D m : ℕ) (c : ℤ) → inside (pos m) c ≡ true → nat_abs (squared D c) ≡ (nat_abs c * nat_abs c + middle D) / 2 ^ D
unfolding squared
squared-nat D m c e = ap (λ (z : ℤ). nat_abs (squared D z)) (inside-pos m c e)

pub bits-least : (depth : Depth) → 1 ≤ bits_of depth
bits-least Eight = omega arith
bits-least Ten = omega arith
bits-least Twelve = omega arith

pub bits_most : (depth : Depth) → bits_of depth ≤ 12
bits_most Eight = omega arith
bits_most Ten = omega arith
bits_most Twelve = omega arith

-- every depth that there is has terms of twelve digits
pub most-small : (D : ℕ) → D ≤ 12 → most D ≤ 4095
most-small D h = omega (arith, pow-le {i = D} {j = 12} h)

-- a number in 0..m, cast to an unsigned type
pub cast-in : (m : ℕ) (z : ℤ) → m < 2 ^ 32 → inside (pos m) z ≡ true → T (non_neg z) × Fits w32 (nat_abs z)
cast-in m z h e = (subst (λ (x : ℤ). T (non_neg x)) (sym (inside-pos m z e)) tt, record { fits = omega (arith, inside-abs m z e) })
