-- The number of a direction and the direction of a number agree, both ways. Assumes nothing.
use mathlib.Core.Path.{◌≡◌, refl}
use mathlib.Core.Bool.{true, false, cond}
use Prim.Native.Nat.{ℕ}
use Rattle.row_words.specs.Dir.{dir_number, dirs, dir_of, is_dir}
use Rattle.row_words.specs.declared.dir.Dir.{Dir}
use Rattle.row_words.specs.declared.dir.Dir.TheVariants.{Vertical, Horizontal, D45, D135, D113, D157, D203, D67}
use Rattle.numbers.specs.declared.answer.Refusal.TheVariants.{BadMode}
use Rattle.std.specs.Prelude.{Result, Ok, Err, IsOk}
use Rattle.numbers.proofs.Look.{look-back, look-yes, look-no, look-else, look-found, ok-same, err-ok}
use Rattle.numbers.specs.declared.answer.Refusal.{Refusal}

-- ---- Dir
pub dir-there : (e : Dir) → dir_of (dir_number e) ≡ Ok e
dir-there Vertical = refl
dir-there Horizontal = refl
dir-there D45 = refl
dir-there D135 = refl
dir-there D113 = refl
dir-there D157 = refl
dir-there D203 = refl
dir-there D67 = refl

pub dir-back : (n : ℕ) (e : Dir) → dir_of n ≡ Ok e → dir_number e ≡ n
dir-back n e h = look-back dir_number Ok (Err BadMode) ok-same (err-ok BadMode) dirs n e h

-- the test, and what the code finds
pub dir-yes : (n : ℕ) (e : Dir) → dir_of n ≡ Ok e → is_dir n ≡ true
unfolding is_dir
dir-yes n e h = look-yes dir_number Ok (Err BadMode) ok-same (err-ok BadMode) dirs n e h

pub dir-no : (n : ℕ) {r : Refusal} → dir_of n ≡ Err r → is_dir n ≡ false
unfolding is_dir
dir-no n h = look-no dir_number BadMode dirs n h

pub dir-else : {A : Type 0} (n : ℕ) {r : Refusal} (later : Result A Refusal) → Err r ≡ dir_of n → Err r ≡ cond (is_dir n) later (Err BadMode)
unfolding is_dir
dir-else n later h = look-else dir_number BadMode dirs n later h

pub dir-found : (n : ℕ) → is_dir n ≡ true → IsOk (dir_of n)
unfolding is_dir
dir-found n e = look-found dir_number BadMode dirs n e
