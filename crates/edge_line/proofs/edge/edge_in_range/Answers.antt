-- `edge_in_range` meets its contract: what stands behind the entries is the two runs, or one where they meet. Assumes nothing.
use Prim.Native.Nat.{ℕ, ◌+◌, ◌-◌, ◌*◌}
use native.Mathlib.Omega.{arith}
use mathlib.Core.Path.{◌≡◌, refl, sym, ◌∙◌, ap}
use mathlib.Core.Bool.{Bool, true, false, ◌&&◌}
use mir.Syntax.{w32}
use mir.Val.{SFits, to_z, of_z}
use mathlib.Core.List.{List}
use lib.Ieee.{Float}
use lib.IntN.{ℤ}
use mir.Facts.{to_z-of_z}
use Rattle.samples.specs.Sample.{is_sample}
use Rattle.edge_line.specs.Along.{along}
use Rattle.edge_line.specs.Every.{every}
use Rattle.edge_line.specs.Run.{run_at, Line}
use Rattle.edge_line.proofs.Runs.{run-from, runs-test, whole-test}
use Rattle.edge_line.proofs.edge.edge_in_range.Goals as goal

module _ {size start stride bs first top : ℕ} (l : Line size start stride bs first top) (plane : List Float) (m : ℤ) (fits : SFits w32 m) where
  -- the test of a run, and what a call tells of it
  abbrev run : ℕ → ℕ → Bool
  run from n = every (λ i. is_sample m (run_at plane from stride i)) n

  told : (from n k : ℕ) (t : Bool) → t ≡ every (λ i. is_sample (to_z w32 (of_z w32 m)) (run_at plane from stride i)) n → n ≡ k → run from k ≡ t
  told from n k t e q = sym (e ∙ rw (to_z-of_z fits, q))

  -- the test of the edge, by what the near run's is
  behind : (t : Bool) → run start first ≡ t
      → (t && run (start + bs * stride) top) ≡ every (λ i. is_sample m (run_at plane start stride (along bs first top i))) (2 * bs)
  behind t e = sym (runs-test l plane (is_sample m) ∙ ap (λ r. r && run (start + bs * stride) top) e)

pub returns-then-first-bs : goal.returns-then-first-bs
returns-then-first-bs c =
    let all : c.args.end ≡ c.args.bs + (c.args.end - c.args.bs) = omega (arith, c.requires.1) in
    sym (told c.requires.0 c.args.plane.now c.args.m c.ranges.m _ _ (c.args.bs + (c.args.end - c.args.bs)) _ c.run_in_range.ensures all)
    ∙ sym (whole-test c.requires.0 c.args.plane.now (is_sample c.args.m) c.if-first-bs.true)

pub returns-then-not-run_in_range : goal.returns-then-not-run_in_range
returns-then-not-run_in_range c = behind c.requires.0 c.args.plane.now c.args.m c.ranges.m false (told c.requires.0 c.args.plane.now c.args.m c.ranges.m _ _ _ _ c.run_in_range-2.ensures refl ∙ c.if-not-run_in_range.true)

pub run_in_range-requires-3 : goal.run_in_range-requires-3
run_in_range-requires-3 c = rw (to_z-of_z c.ranges.m) (run-from c.requires.0 _ _ (omega arith), c.requires.2)

pub returns : goal.returns
returns c =
    sym (told c.requires.0 c.args.plane.now c.args.m c.ranges.m _ _ _ _ c.run_in_range-3.ensures refl)
    ∙ behind c.requires.0 c.args.plane.now c.args.m c.ranges.m true (told c.requires.0 c.args.plane.now c.args.m c.ranges.m _ _ _ _ c.run_in_range-2.ensures refl ∙ c.if-not-run_in_range.false)
