-- What the library writes of words, and of zeros, place by place. Assumes nothing.
use mathlib.Core.Path.{◌≡◌, refl, sym, ◌∙◌, ap}
use mathlib.Core.List.{List, [], ◌∷◌, ◌++◌}
use Prim.Native.Nat.{ℕ, zero, suc, ◌%◌}
use native.Mathlib.Nat.{div-one}
use native.Mathlib.Numerals.{add-one}
use mir.Syntax.{w16, w32}
use lib.ListN.{replicate}
use Rattle.std.specs.Int.{to_le_bytes}
use Rattle.std.proofs.lemmas.List.{replicate_more}
use Rattle.lists.specs.Fill.{tab}
use Rattle.block_image.specs.Bytes.{byte_of}

first_byte : (n : ℕ) → n % 256 ≡ byte_of n 0
first_byte n = ap (λ (x : ℕ). x % 256) (sym (div-one n))

pub le_bytes_two : (n : ℕ) → to_le_bytes w16 n ≡ tab 2 (byte_of n)
unfolding tab
le_bytes_two n = ap (λ x. x ∷ byte_of n 1 ∷ []) (first_byte n)

pub le_bytes_four : (n : ℕ) → to_le_bytes w32 n ≡ tab 4 (byte_of n)
unfolding tab
le_bytes_four n = ap (λ x. x ∷ byte_of n 1 ∷ byte_of n 2 ∷ byte_of n 3 ∷ []) (first_byte n)

pub zeros : (n : ℕ) → replicate {A = ℕ} n 0 ≡ tab n (λ i. 0)
unfolding tab
zeros zero = refl
zeros (suc n) = rw add-one at (sym (replicate_more {X = ℕ} n 0)) ∙ ap (λ (l : List ℕ). l ++ 0 ∷ []) (zeros n)
