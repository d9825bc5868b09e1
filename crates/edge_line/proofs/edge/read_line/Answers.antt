-- `read_line` meets its contract: the near run with its repeats and the far run, or one run where they meet. Assumes nothing.
use native.Mathlib.Omega.{arith}
use mathlib.Core.Path.{◌≡◌, refl, sym, ◌∙◌, ap}
use mathlib.Core.List.{List}
use mathlib.Core.Logic.{⊎_elim}
use Prim.Native.Nat.{ℕ, ◌+◌, ◌-◌, ◌≤◌, ◌<◌, min}
use lib.Ieee.{Float}
use lib.IntN.{ℤ, pos}
use lib.ListN.{length}
use borrow.Rule.Slice.PartMut.{mid_len}
use Rattle.lists.specs.Fill.{filled}
use Rattle.lists.proofs.Fill.{length-filled, filled_none}
use Rattle.samples.specs.Sample.{reading, Readable}
use Rattle.edge_line.specs.Along.{along}
use Rattle.edge_line.specs.Run.{run_at, Line}
use Rattle.edge_line.proofs.Split.{below_or}
use Rattle.edge_line.proofs.Along.{along-here, along-far}
use Rattle.edge_line.proofs.Runs.{run-near, run-from, near-held, far-held}
use Rattle.edge_line.proofs.Halves.{near-half, far-half}
use Rattle.edge_line.proofs.edge.read_line.Goals as goal
use Rattle.edge_line.proofs.edge.read_line.Goals.{then-first-bs, else-first-bs}

module _ {size start stride bs a top : ℕ} (l : Line size start stride bs a top) (plane : List Float) (xs : List ℤ) where
  abbrev entry : ℕ → ℤ
  entry c = pos (reading (run_at plane start stride (along bs a top c)))

  module _ (end from : ℕ) (edge : List ℤ) where
    -- before the last run: the entries below `from` are written, and from there on each entry's sample is its own
    record Half : Type 0 where
      short : from ≤ bs
      written : edge ≡ filled from entry xs
      own : (i : ℕ) → from ≤ i → i < end → along bs a top i ≡ i

    longs : Half → bs ≤ length xs → length edge ≡ length xs
    longs h k = ap (λ (zs : List ℤ). length zs) h.written ∙ length-filled from entry xs (omega (arith, h.short))

    module _ (ends : end ≤ bs + top) where
      after-near : {near : List ℤ} → edge ≡ near → from ≡ bs → near ≡ filled bs (λ i. pos (reading (run_at plane start stride (min i (a - 1))))) xs → Half
      after-near e n told = record {
        short = omega (arith, n);
        written = e ∙ told ∙ near-half l plane (λ v. pos (reading v)) _ xs refl ∙ ap (λ n. filled n entry xs) (sym n);
        own = λ i h k. along-far _ _ _ i (omega (arith, n)) (omega (arith, l.counts));
      }

      after-none : edge ≡ xs → from ≡ 0 → bs ≤ a → Half
      after-none e n m = record {
        short = omega (arith, n);
        written = e ∙ sym (filled_none entry xs) ∙ ap (λ n. filled n entry xs) (sym n);
        own = λ i h k.
            ⊎_elim
            (λ b. along-here _ _ _ i (omega (arith, m, l.counts)))
            (λ b. along-far _ _ _ i b (omega (arith, l.counts)))
            (below_or i bs);
      }

pub read_and_repeat-requires : goal.read_and_repeat-requires
read_and_repeat-requires c =
    let l = c.requires.line.0 in
    record {
      run = (run-near l _ (omega (arith, l.counts)), l.counts.0, omega (arith, l.counts), omega (arith, l.block));
      by_index = near-held l c.args.plane.now Readable c.requires.by_index _ (omega arith);
    }

pub read_run-requires : goal.read_run-requires
read_run-requires c =
    let l = c.requires.line.0 in
    let j = c.if-first-bs in
    let h : Half c.requires.line.0 c.args.plane.now c.args.edge.now c.args.end j.from j.edge = elim j.branch [
      | then-first-bs w ↦ after-near c.requires.line.0 c.args.plane.now c.args.edge.now c.args.end _ _ (omega arith) w.edge-is w.from-is w.read_and_repeat.ensures
      | else-first-bs w ↦ after-none c.requires.line.0 c.args.plane.now c.args.edge.now c.args.end _ _ (omega arith) w.edge-is w.from-is w.if-first-bs.false
    ] in
    let long = longs c.requires.line.0 c.args.plane.now c.args.edge.now c.args.end j.from j.edge h (omega (arith, l.block)) in
    let part = mid_len j.from c.args.end j.edge (omega (arith, long, l.counts, l.block)) in
    rw part record {
      run = run-from l _ _ (omega (arith, h.short));
      by_index = far-held l c.args.plane.now Readable c.requires.by_index _ j.from (omega (arith, h.short)) (λ i f k. h.own i f (omega (arith, l.counts)));
    }

pub returns : goal.returns
returns c =
    let l = c.requires.line.0 in
    let j = c.if-first-bs in
    let h : Half c.requires.line.0 c.args.plane.now c.args.edge.now c.args.end j.from j.edge = elim j.branch [
      | then-first-bs w ↦ after-near c.requires.line.0 c.args.plane.now c.args.edge.now c.args.end _ _ (omega arith) w.edge-is w.from-is w.read_and_repeat.ensures
      | else-first-bs w ↦ after-none c.requires.line.0 c.args.plane.now c.args.edge.now c.args.end _ _ (omega arith) w.edge-is w.from-is w.if-first-bs.false
    ] in
    let long = longs c.requires.line.0 c.args.plane.now c.args.edge.now c.args.end j.from j.edge h (omega (arith, l.block)) in
    far-half l c.args.plane.now (λ v. pos (reading v)) j.from c.args.end c.args.edge.now j.edge _ (omega (arith, h.short)) (omega (arith, long, l.counts, l.block))
    h.written c.read_run.ensures h.own
