-- The plan's own order: its entries, and that it is accepted. Assumes nothing.
use mathlib.Core.Path.{◌≡◌, refl, ap}
use Prim.Native.Nat.{ℕ, zero, suc, ◌+◌, ◌<◌}
use native.Mathlib.Omega.{arith}
use lib.ListN.{length, get_or}
use Rattle.reorder.specs.Once.{Once}
use Rattle.reorder.specs.Jobs.{Jobs}
use Rattle.reorder.specs.Order.{up_from, Accepted}
use Rattle.reorder.proofs.Once.{once-of-fresh}
use Rattle.reorder.proofs.Kept.{kept_at}

pub length-up_from : (k m : ℕ) → length (up_from k m) ≡ m
unfolding up_from
length-up_from k zero = refl
length-up_from k (suc m) = ap suc (length-up_from (suc k) m)

pub get_d-up_from : (k m i : ℕ) → i < m → get_or (up_from k m) i 0 ≡ k + i
unfolding up_from
get_d-up_from k zero i h = absurd (omega arith)
get_d-up_from k (suc m) zero h = omega arith
get_d-up_from k (suc m) (suc i) h = omega (arith, get_d-up_from (suc k) m i (omega arith))

pub up_from-once : (n : ℕ) → Once n (up_from 0 n)
up_from-once n = once-of-fresh n (up_from 0 n) (record {
  long = length-up_from 0 n;
  below = λ k h. omega (arith, get_d-up_from 0 n k h);
  differ = λ a b h k e. omega (arith, get_d-up_from 0 n a (omega arith), get_d-up_from 0 n b k, e);
})

-- the plan's own order is accepted
pub plan-accepted : (J : Jobs) (row : ℕ → J.Job) (n : ℕ) → Accepted J row n (up_from 0 n)
plan-accepted J row n = record {
  once = up_from-once n;
  kept = (kept_at J row n (up_from 0 n) (up_from-once n)).1 (λ a b h k cl. omega (arith, get_d-up_from 0 n a (omega arith), get_d-up_from 0 n b k));
}
