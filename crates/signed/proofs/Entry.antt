-- An entry of an edge whose first n entries are in 0..4095: its size, and itself read back from its bits. Assumes nothing.
use native.Mathlib.Omega.{arith}
use mathlib.Core.Path.{◌≡◌}
use mathlib.Core.List.{List}
use Prim.Native.Nat.{ℕ, ◌≤◌, ◌<◌}
use lib.IntN.{ℤ, pos, nat_abs}
use lib.ListN.{get_or}
use mir.Syntax.{w32}
use mir.Val.{to_z, of_z}
use Rattle.signed.specs.Range.{Edge}
use Rattle.signed.proofs.Bound.{back-abs}
use Rattle.signed.proofs.Range.{inside-abs}

module _ (n : ℕ) (xs : List ℤ) (edge : Edge 4095 n xs) (i : ℕ) (h : i < n) where
  pub entry_small : nat_abs (get_or xs i (pos 0)) ≤ 4095
  entry_small = inside-abs 4095 (get_or xs i (pos 0)) (edge i h)

  pub entry_back : to_z w32 (of_z w32 (get_or xs i (pos 0))) ≡ get_or xs i (pos 0)
  entry_back = back-abs w32 (get_or xs i (pos 0)) (omega (arith, entry_small))
