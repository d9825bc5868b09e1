-- From an accepted direct call to what its block function is given, and from edges in 0..M to edges in 0..4095, with B and D open. Assumes nothing.
use mathlib.Core.Bool.{Bool}
use mathlib.Core.List.{List}
use Prim.Native.Nat.{ℕ, ◌≤◌}
use lib.IntN.{ℤ}
use Rattle.numbers.specs.Depth.{most}
use Rattle.signed.proofs.Range.{inside-more}
use Rattle.direct_calls.specs.Given.{Given}
use Rattle.direct_calls.proofs.Accepted.{Accepted}

pub given : {B D : ℕ} {named : Bool} {above left : List ℤ} {k : ℤ} {n : ℕ} → Accepted B D named above left k n → Given B (most D) above left k n
given a = record {
  size = a.size;
  above-long = a.above-long;
  left-long = a.left-long;
  out-long = a.out-long;
  above_in = a.above_in;
  left_in = a.left_in;
  corner-in = a.corner-in;
}

-- what is in 0..M is in 0..N
pub given-more : {B M N : ℕ} {above left : List ℤ} {k : ℤ} {n : ℕ} → M ≤ N → Given B M above left k n → Given B N above left k n
given-more {B} {M} {N} {above} {left} {k} h g = record {
  size = g.size;
  above-long = g.above-long;
  left-long = g.left-long;
  out-long = g.out-long;
  above_in = λ i l. inside-more M N h _ (g.above_in i l);
  left_in = λ i l. inside-more M N h _ (g.left_in i l);
  corner-in = inside-more M N h k g.corner-in;
}
