-- The running numerator of a line: before column c it is `run l e m c`, and from one column to the next it changes by e - l. Assumes nothing.
use mathlib.Core.Path.{◌≡◌, sym, ◌∙◌, ap}
use Prim.Native.Nat.{ℕ, suc, ◌+◌, ◌-◌, ◌*◌, ◌/◌, ◌^◌, ◌≤◌, ◌<◌}
use native.Mathlib.Nat.{mul-le-mul}
use native.Mathlib.Omega.{arith}
use Rattle.smooth_steps.specs.Parts.{part, Step}
use Rattle.smooth_steps.proofs.Steps.{parts-most}
use Rattle.smooth_steps.proofs.Parts.{part-most}

unfoldable pub run : ℕ → ℕ → ℕ → ℕ → ℕ
run l e m c = l * (m - c) + e * c + m / 2

module _ (l e m c : ℕ) (inside : c < m) where
  pub run-next : run l e m c + e ≡ run l e m (c + 1) + l
  unfolding run
  run-next =
      let left : m - c ≡ suc (m - (c + 1)) = omega arith in
      omega (arith, ap (λ n. l * n) left)

  -- the numerator after the change is that of column c
  run-part : run l e m (c + 1) / m ≡ part m e l (m - 1 - c)
  unfolding run part
  run-part =
      let here : m - (c + 1) ≡ m - 1 - c = omega arith in
      let there : c + 1 ≡ m - (m - 1 - c) = omega arith in
      (λ j. (l * here j + e * (c + 1) + m / 2) / m) ∙ (λ j. (l * (m - 1 - c) + e * there j + m / 2) / m)

module _ {l e m k : ℕ} (s : Step e 0 m k) (h : l ≤ 4095) where
  pub run-most : (c : ℕ) → c ≤ m → run l e m c ≤ 600000
  unfolding run
  run-most c hc =
      let n = parts-most s in
      let few : m - c ≤ 64 = omega arith in
      let few' : c ≤ 64 = omega arith in
      omega (arith, mul-le-mul h few, mul-le-mul s.end few')

  module _ (c : ℕ) (hc : c < m) where
    -- one turn: nothing wraps, and the shift gives the column's number
    pub run_is : (run l e m c + e - l) / 2 ^ k ≡ part m e l (m - 1 - c)
    run_is =
        let next : run l e m c + e - l ≡ run l e m (c + 1) = omega (arith, run-next l e m c hc) in
        rw (sym s.power) (ap (λ n. n / m) next ∙ run-part l e m c hc)

    pub here-most : part m e l (m - 1 - c) ≤ 4095
    here-most = part-most m (parts-most s).0 4095 e l (m - 1 - c) s.end h (omega arith)
