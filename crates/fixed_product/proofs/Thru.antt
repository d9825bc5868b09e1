-- A number that went through a local of the type i32, read back from its bits. Assumes nothing.
use mathlib.Core.Path.{◌≡◌, ◌∙◌}
use Prim.Native.Nat.{◌<◌, ◌^◌}
use lib.IntN.{ℤ}
use lib.Signed.{mag}
use mir.Syntax.{w32}
use mir.Val.{to_z, of_z}
use Rattle.signed.proofs.Bound.{back}

abbrev pub thru : ℤ → ℤ
thru z = to_z w32 (of_z w32 z)

-- what a call gave, by what it promised
pub got : {r d e : ℤ} → mag r < 2 ^ 31 → r ≡ d → d ≡ e → thru r ≡ e
got {r} ok p q = back w32 {z = r} (record { sfits = ok }) ∙ p ∙ q
