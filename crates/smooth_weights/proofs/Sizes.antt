-- The sizes: each fact is computed at the five, and used with the size open. Assumes nothing.
use mathlib.Core.Path.{◌≡◌}
use mathlib.Core.Bool.{true}
use Prim.Native.Nat.{ℕ, ◌-◌, ◌/◌, ◌^◌, ◌≤◌, ◌<◌}
use native.Mathlib.Omega.{arith}
use lib.Count.{count_trailing_zeros}
use Rattle.numbers.specs.Size.{is_size}
use Rattle.numbers.proofs.Agree.{size-all}
use Rattle.smooth_weights.specs.Weights.{log2, scale}
use Rattle.smooth_weights.specs.Reach.{reach_of}

pub record Sized (B : ℕ) : Type 0 where
  pub power : B ≡ 2 ^ log2 B
  pub low : 1 ≤ log2 B
  pub high : log2 B ≤ 6
  pub scaled : (log2 B - 1) / 2 ≡ scale B
  pub few : scale B ≤ 2
  -- the columns with weights are the block's
  pub reach : reach_of (scale B) ≤ B

pub sized : (B : ℕ) → is_size B ≡ true → Sized B
unfolding log2 scale count_trailing_zeros
sized B e =
    let f = size-all (λ x. (x ≡ 2 ^ log2 x) × (1 ≤ log2 x) × (log2 x ≤ 6) × ((log2 x - 1) / 2 ≡ scale x) × (scale x ≤ 2) × (reach_of (scale x) ≤ x)) B (omega arith) e in
    record { power = f.0; low = f.1; high = f.2; scaled = f.3; few = f.4; reach = f.5 }

pub size-some : (B : ℕ) → is_size B ≡ true → 0 < B
size-some B e = omega (arith, (sized B e).reach)
