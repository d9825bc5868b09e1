-- Samples in 0..m are samples in 0..4095, and m itself is a natural number. Assumes nothing.
use mathlib.Core.Bool.{true}
use mathlib.Core.Path.{◌≡◌}
use mathlib.Core.List.{List}
use Prim.Native.Nat.{ℕ}
use lib.IntN.{ℤ, pos, nat_abs}
use Rattle.signed.specs.Range.{inside, Edge}
use Rattle.signed.proofs.Range.{inside-abs, inside-more, inside-pos}

module _ (m : ℤ) (h : inside (pos 4095) m ≡ true) where
  pub m-is : m ≡ pos (nat_abs m)
  m-is = inside-pos 4095 m h

  pub in-sample : (z : ℤ) → inside (pos (nat_abs m)) z ≡ true → inside (pos 4095) z ≡ true
  in-sample z e = inside-more (nat_abs m) 4095 (inside-abs 4095 m h) z e

  pub edge-sample : (n : ℕ) (xs : List ℤ) → Edge (nat_abs m) n xs → Edge 4095 n xs
  edge-sample n xs e i l = in-sample _ (e i l)
