-- `luma_at` meets its contract: the four entries are read back as they stand. Assumes nothing.
use native.Mathlib.Omega.{arith}
use mathlib.Core.Path.{◌≡◌}
use Prim.Native.Nat.{ℕ, ◌<◌, ◌+◌}
use lib.IntN.{ℤ, pos}
use lib.ListN.{get_or}
use mir.Facts.{to_z-of_z}
use mir.Syntax.{w32}
use mir.Val.{to_z, of_z}
use Rattle.signed.proofs.Bound.{back-abs}
use Rattle.signed.proofs.Range.{inside-abs}
use Rattle.interpolation.proofs.luma.luma_at.Goals as goal
use Rattle.interpolation.proofs.luma.luma_at.Goals.{Start}

-- the entries are samples
module _ (s : Start) where
  abbrev e : ℕ → ℤ
  e k = get_or s.args.list.now k (pos 0)

  e-back : (k : ℕ) → k < s.args.i + 4 → to_z w32 (of_z w32 (e k)) ≡ e k
  e-back k h = back-abs w32 (e k) (omega (arith, inside-abs 4095 (e k) (s.requires.i_in_bounds.1 k h)))

pub luma_sample-requires : goal.luma_sample-requires
luma_sample-requires c =
    let s = c.before.before.before.before in
    let i = s.args.i in
    simp (to_z-of_z, s.ranges.f0, s.ranges.f1, s.ranges.f2, s.ranges.f3, s.ranges.m, e-back s i (omega arith), e-back s (i + 1) (omega arith), e-back s (i + 2) (omega arith), e-back s (i + 3) (omega arith))
    record { taps = s.requires.taps; a_value = (s.requires.i_in_bounds.1 i (omega arith), s.requires.i_in_bounds.1 (i + 1) (omega arith), s.requires.i_in_bounds.1 (i + 2) (omega arith), s.requires.i_in_bounds.1 (i + 3) (omega arith)) }

pub returns : goal.returns
returns c =
    let s = c.before.before.before.before.before in
    let i = s.args.i in
    simp (to_z-of_z, s.ranges.f0, s.ranges.f1, s.ranges.f2, s.ranges.f3, s.ranges.m, e-back s i (omega arith), e-back s (i + 1) (omega arith), e-back s (i + 2) (omega arith), e-back s (i + 3) (omega arith)) at c.luma_sample.ensures
