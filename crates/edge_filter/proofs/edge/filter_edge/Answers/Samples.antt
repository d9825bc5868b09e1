-- What `filter_edge` reads and writes: the edge, the filtered edge and its list, of samples, which are read back as they stand. Assumes nothing.
use Prim.Native.Nat.{ℕ, ◌+◌, ◌-◌, ◌≤◌, min}
use native.Mathlib.Omega.{arith}
use mathlib.Core.Path.{◌≡◌}
use mathlib.Core.Bool.{true}
use lib.IntN.{ℤ, pos}
use mir.Syntax.{w32}
use mir.Val.{to_z, of_z}
use Rattle.signed.specs.Range.{inside}
use Rattle.signed.proofs.Bound.{back-abs}
use Rattle.signed.proofs.Range.{inside-abs}
use Rattle.edge_filter.specs.Filter.{padded, filtered}
use Rattle.edge_filter.specs.Padded.{entry_at}
use Rattle.edge_filter.proofs.Filtered.{filtered-sample}
use Rattle.edge_filter.proofs.edge.filter_edge.Goals.{Start}

module _ (s : Start) where
  abbrev pub e : ℕ → ℤ
  e = entry_at s.args.pad.now

  pub corner-back : to_z w32 (of_z w32 (e 0)) ≡ e 0
  corner-back = back-abs w32 (e 0) (omega (arith, inside-abs 4095 (e 0) (s.requires.6.samples 4 (omega arith))))

  abbrev pub g : ℕ → ℤ
  g = filtered s.args.s s.args.lim s.args.n e

  abbrev pub f : ℕ → ℤ
  f = padded 4 s.args.n g

  pub f-back : (j : ℕ) → to_z w32 (of_z w32 (f j)) ≡ f j
  f-back j =
      let samples : (i : ℕ) → i ≤ s.args.n → inside (pos 4095) (e i) ≡ true = λ i h. s.requires.6.samples (i + 4) (omega arith) in
      let p = filtered-sample 4095 s.args.n s.args.s s.args.lim e s.requires.1 samples (min s.args.n (j - 4)) (omega arith) in
      back-abs w32 (f j) (omega (arith, inside-abs 4095 (f j) p))
