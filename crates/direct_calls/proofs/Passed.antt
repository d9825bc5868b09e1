-- A direct call that its tests pass, as its block function asks it: whatever the depth, edges and corner in 0..4095. Assumes nothing.
use mathlib.Core.Path.{◌≡◌, sym}
use mathlib.Core.Bool.{Bool}
use mathlib.Core.List.{List}
use Prim.Native.Nat.{ℕ}
use lib.IntN.{ℤ}
use Rattle.std.specs.Prelude.{⊤, Ok}
use Rattle.direct_calls.specs.Direct.{direct_answer}
use Rattle.direct_calls.specs.Given.{Given}
use Rattle.direct_calls.proofs.Accepted.{accepted, depth-most}
use Rattle.direct_calls.proofs.Given.{given, given-more}

pub passed : {B : ℕ} {above left : List ℤ} {k : ℤ} {n : ℕ} {u : ⊤} (D : ℕ) (named : Bool) → Ok u ≡ direct_answer B D named above left k n
    → Given B 4095 above left k n
passed D named e =
    let a = accepted _ D named _ _ _ _ (sym e) in
    given-more (depth-most D a.depth) (given a)
