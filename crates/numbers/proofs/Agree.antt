-- The two ways agree: the case of a case's number is that case, and the number of the case that is found is the number that was looked for.
-- Here for the enums that the code looks up. Assumes nothing.
use mathlib.Core.Path.{◌≡◌, refl}
use mathlib.Core.Bool.{true, false, cond}
use Prim.Native.Nat.{ℕ}
use Rattle.numbers.specs.Size.{side_of, sizes, size_of, is_size}
use Rattle.numbers.specs.declared.size.Size.{Size}
use Rattle.numbers.specs.declared.size.Size.TheVariants.{B4, B8, B16, B32, B64}
use Rattle.numbers.specs.Depth.{bits_of, depths, depth_of, is_depth}
use Rattle.numbers.specs.declared.depth.Depth.{Depth}
use Rattle.numbers.specs.declared.depth.Depth.TheVariants.{Eight, Ten, Twelve}
use Rattle.std.specs.Prelude.{Result, Ok, Err, IsOk}
use Rattle.numbers.specs.declared.answer.Refusal.TheVariants.{BadSize, BadDepth}
use Rattle.numbers.proofs.Look.{look-back, look-yes, look-no, look-else, look-found, ok-same, err-ok, Every, among-all}
use Rattle.numbers.specs.declared.answer.Refusal.{Refusal}

-- ---- Size
pub size-there : (e : Size) → size_of (side_of e) ≡ Ok e
size-there B4 = refl
size-there B8 = refl
size-there B16 = refl
size-there B32 = refl
size-there B64 = refl

pub size_back : (n : ℕ) (e : Size) → size_of n ≡ Ok e → side_of e ≡ n
size_back n e h = look-back side_of Ok (Err BadSize) ok-same (err-ok BadSize) sizes n e h

-- the test, and what the code finds
pub size-yes : (n : ℕ) (e : Size) → size_of n ≡ Ok e → is_size n ≡ true
unfolding is_size
size-yes n e h = look-yes side_of Ok (Err BadSize) ok-same (err-ok BadSize) sizes n e h

pub size-no : (n : ℕ) {r : Refusal} → size_of n ≡ Err r → is_size n ≡ false
unfolding is_size
size-no n h = look-no side_of BadSize sizes n h

pub size-else : {A : Type 0} (n : ℕ) {r : Refusal} (later : Result A Refusal) → Err r ≡ size_of n → Err r ≡ cond (is_size n) later (Err BadSize)
unfolding is_size
size-else n later h = look-else side_of BadSize sizes n later h

-- a fact of each size is computed there, and used with B open
pub size-all : (P : ℕ → Type 0) (n : ℕ) → Every (λ e. P (side_of e)) sizes → is_size n ≡ true → P n
unfolding is_size
size-all P n all h = among-all side_of P sizes n all h

-- ---- Depth
pub depth-there : (e : Depth) → depth_of (bits_of e) ≡ Ok e
depth-there Eight = refl
depth-there Ten = refl
depth-there Twelve = refl

pub depth-back : (n : ℕ) (e : Depth) → depth_of n ≡ Ok e → bits_of e ≡ n
depth-back n e h = look-back bits_of Ok (Err BadDepth) ok-same (err-ok BadDepth) depths n e h

-- the test, and what the code finds
pub depth-yes : (n : ℕ) (e : Depth) → depth_of n ≡ Ok e → is_depth n ≡ true
unfolding is_depth
depth-yes n e h = look-yes bits_of Ok (Err BadDepth) ok-same (err-ok BadDepth) depths n e h

pub depth-no : (n : ℕ) {r : Refusal} → depth_of n ≡ Err r → is_depth n ≡ false
unfolding is_depth
depth-no n h = look-no bits_of BadDepth depths n h

pub depth-else : {A : Type 0} (n : ℕ) {r : Refusal} (later : Result A Refusal) → Err r ≡ depth_of n → Err r ≡ cond (is_depth n) later (Err BadDepth)
unfolding is_depth
depth-else n later h = look-else bits_of BadDepth depths n later h

pub depth-found : (n : ℕ) → is_depth n ≡ true → IsOk (depth_of n)
unfolding is_depth
depth-found n e = look-found bits_of BadDepth depths n e

-- a fact of each depth is computed there, and used with D open
pub depth-all : (P : ℕ → Type 0) (n : ℕ) → Every (λ e. P (bits_of e)) depths → is_depth n ≡ true → P n
unfolding is_depth
depth-all P n all h = among-all bits_of P depths n all h
