-- `chroma_at` meets its contract: the two entries are read back as they stand. Assumes nothing.
use native.Mathlib.Omega.{arith}
use mathlib.Core.Path.{◌≡◌}
use Prim.Native.Nat.{ℕ, ◌<◌, ◌+◌}
use lib.IntN.{ℤ, pos}
use lib.ListN.{get_or}
use mir.Facts.{to_z-of_z}
use mir.Syntax.{w32}
use mir.Val.{to_z, of_z}
use Rattle.signed.proofs.Bound.{back-abs}
use Rattle.signed.proofs.Range.{inside-abs}
use Rattle.interpolation.proofs.chroma.chroma_at.Goals as goal
use Rattle.interpolation.proofs.chroma.chroma_at.Goals.{Start}

-- the entries are samples
module _ (s : Start) where
  abbrev e : ℕ → ℤ
  e k = get_or s.args.list.now k (pos 0)

  e-back : (k : ℕ) → k < s.args.i + 2 → to_z w32 (of_z w32 (e k)) ≡ e k
  e-back k h = back-abs w32 (e k) (omega (arith, inside-abs 4095 (e k) (s.requires.i_in_bounds.1 k h)))

pub chroma_sample-requires : goal.chroma_sample-requires
chroma_sample-requires c =
    let s = c.before.before in
    let i = s.args.i in
    simp (to_z-of_z, s.ranges.g, s.ranges.f, s.ranges.m, e-back s i (omega arith), e-back s (i + 1) (omega arith))
    record { g_bound = (s.requires.g_bound.0, s.requires.g_bound.1, s.requires.i_in_bounds.1 i (omega arith), s.requires.i_in_bounds.1 (i + 1) (omega arith)); m_value = s.requires.g_bound.2 }

pub returns : goal.returns
returns c =
    let s = c.before.before.before in
    let i = s.args.i in
    simp (to_z-of_z, s.ranges.g, s.ranges.f, s.ranges.m, e-back s i (omega arith), e-back s (i + 1) (omega arith)) at c.chroma_sample.ensures
