-- The two runs of a line: the near one from its start on, and the far one, which starts bs samples on. Both lie in the plane, and what is known of the
-- samples behind the 2 bs entries is known of both, and tested by testing both. Assumes nothing.
use mathlib.Core.Path.{◌≡◌, sym, ◌∙◌, ap, subst}
use mathlib.Core.Bool.{Bool, ◌&&◌}
use mathlib.Core.List.{List}
use Prim.Native.Nat.{ℕ, ◌+◌, ◌-◌, ◌*◌, ◌≤◌, ◌<◌, min}
use native.Mathlib.Nat.{mul-le-mul, mul-le-mul_right}
use native.Mathlib.Omega.{arith}
use lib.Ieee.{Float, nan}
use lib.ListN.{get_or}
use mir.Syntax.{w64}
use mir.Val.{Fits}
use Rattle.edge_line.specs.Along.{along}
use Rattle.edge_line.specs.Every.{every}
use Rattle.edge_line.specs.Run.{run_at, Run, Line}
use Rattle.edge_line.proofs.Every.{every-same, every-join}
use Rattle.edge_line.proofs.Along.{along-here, every-along}

-- the far run's samples, from the line's start on
pub far_at : (plane : List Float) (start stride bs i : ℕ) → run_at plane (start + bs * stride) stride i ≡ run_at plane start stride (bs + i)
far_at plane start stride bs i = ap (λ k. get_or plane k nan) (omega arith)

module _ {size start stride bs a top : ℕ} (l : Line size start stride bs a top) where
  pub run-from : (k n : ℕ) → k + n ≤ bs + top → Run size (start + k * stride) stride n
  run-from k n h = record {
    lies = λ i j. omega (arith, mul-le-mul_right {m = k + i} {n = bs + top - 1} stride (omega arith));
    near = l.near;
    small = l.small;
  }

  pub run-near : (n : ℕ) → n ≤ bs + top → Run size start stride n
  run-near n h = subst (λ (at : ℕ). Run size at stride n) (omega arith) (run-from 0 n (omega arith))

  -- where the far run starts fits a usize
  module _ (k : ℕ) (h : k ≤ bs) where
    step_small : k * stride ≤ 64 * 4096
    step_small = mul-le-mul {n₁ = k} {n₂ = 64} (omega (arith, l.block.1)) l.near

    pub step_fits : Fits w64 (k * stride)
    step_fits = omega (arith, step_small)

    pub start_fits : Fits w64 (start + k * stride)
    start_fits = omega (arith, step_small, l.lies, l.small)

  -- what holds of the sample behind each entry holds of both runs
  module _ (plane : List Float) (P : Float → Type 0) (held : (c : ℕ) → c < 2 * bs → P (run_at plane start stride (along bs a top c))) (n : ℕ) where
    pub near-held : n ≤ a → (i : ℕ) → i < n → P (run_at plane start stride i)
    near-held h i k = let n = l.counts in rw (along-here bs a top i (omega arith)) at (held i (omega arith))

    -- from an entry on at which each entry's sample is its own
    pub far-held : (from : ℕ) → from + n ≤ bs + top → ((i : ℕ) → from ≤ i → i < bs + top → along bs a top i ≡ i)
        → (i : ℕ) → i < n → P (run_at plane (start + from * stride) stride i)
    far-held from h own i k = let n = l.counts in rw (far_at plane start stride from i) (rw (own (from + i) (omega arith) (omega arith)) at (held (from + i) (omega arith)))

  -- a test of the samples behind the entries is a test of both runs
  module _ (plane : List Float) (test : Float → Bool) where
    abbrev at : ℕ → Bool
    at i = test (run_at plane start stride i)

    along-test : every (λ c. at (along bs a top c)) (2 * bs) ≡ (every at a && every (λ i. at (bs + i)) top)
    along-test =
        let near : min bs a ≡ a = omega (arith, l.counts) in
        let far : min top bs ≡ top = omega (arith, l.counts) in
        every-along bs a top at l.block.0 l.counts.0 ∙ (λ j. every at (near j) && every (λ i. at (bs + i)) (far j))

    pub runs-test : every (λ c. at (along bs a top c)) (2 * bs) ≡ (every at a && every (λ i. test (run_at plane (start + bs * stride) stride i)) top)
    runs-test = along-test ∙ ap (λ t. every at a && t) (every-same _ _ top (λ i h. ap test (sym (far_at plane start stride bs i))))

    -- and of one, where the two meet
    pub whole-test : a ≡ bs → every (λ c. at (along bs a top c)) (2 * bs) ≡ every at (bs + top)
    whole-test e = along-test ∙ ap (λ n. every at n && every (λ i. at (bs + i)) top) e ∙ every-join at bs top
