-- "Interpolation: luma four taps of `F4`, + 64, >> 7; else two taps (32 - f) and f, + 16, >> 5; clipped to 0..M." (document 01, Directions)
use Rattle.std.specs.Prelude.{ℕ, ◌+◌, ◌-◌, ◌/◌, ◌%◌, ◌≤◌, Bool, cond, ℤ, pos, nat_abs, ◌+ℤ◌, ◌*ℤ◌}
use Rattle.std.specs.Int.Signed.{shr_z, lt_z}
use Rattle.taps.specs.F4.{f4}

-- "clipped to 0..M"
unfoldable pub clip : ℤ → ℤ → ℤ
clip M x = cond (lt_z x (pos 0)) (pos 0) (cond (lt_z M x) M x)

-- "luma four taps of `F4`, + 64, >> 7"
unfoldable pub taps4 : ℤ → ℤ → ℤ → ℤ → ℤ → ℤ → ℤ → ℤ → ℤ
taps4 f0 f1 f2 f3 a b c d = shr_z (f0 *ℤ a +ℤ f1 *ℤ b +ℤ f2 *ℤ c +ℤ f3 *ℤ d +ℤ pos 64) 128

-- "else two taps (32 - f) and f, + 16, >> 5"
unfoldable pub taps2 : ℤ → ℤ → ℤ → ℤ → ℤ
taps2 g f a b = shr_z (g *ℤ a +ℤ f *ℤ b +ℤ pos 16) 32

-- from the entries b, b + 1, .. of a list, which is a function of the place
abbrev pub luma : ℤ → ℤ → ℤ → ℤ → ℤ → (ℕ → ℤ) → ℕ → ℤ
luma M f0 f1 f2 f3 p b = clip M (taps4 f0 f1 f2 f3 (p b) (p (b + 1)) (p (b + 2)) (p (b + 3)))

abbrev pub chroma : ℤ → ℤ → ℤ → (ℕ → ℤ) → ℕ → ℤ
chroma M g f p b = clip M (taps2 g f (p b) (p (b + 1)))

-- a place is told in 64ths of an entry: its base is the whole part, its phase every second 64th
abbrev pub phase : ℕ → ℕ
phase q = q % 64 / 2

-- the sample at q 64ths. The list p starts one entry early: entry q / 64 + 1 is the base's own, with a tap of luma before it
unfoldable pub between : Bool → ℤ → (ℕ → ℤ) → ℕ → ℤ
between lum M p q =
    cond lum
    (luma M (f4 (phase q) 0) (f4 (phase q) 1) (f4 (phase q) 2) (f4 (phase q) 3) p (q / 64))
    (chroma M (pos (32 - phase q)) (pos (phase q)) p (q / 64 + 1))

-- what the code's steps ask of their taps
pub record Taps (f0 f1 f2 f3 : ℤ) : Type 0 where
  pub t0 : nat_abs f0 ≤ 128
  pub t1 : nat_abs f1 ≤ 128
  pub t2 : nat_abs f2 ≤ 128
  pub t3 : nat_abs f3 ≤ 128
