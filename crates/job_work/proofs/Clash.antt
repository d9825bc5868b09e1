-- Two jobs clash exactly when the test of their rectangles says so. Assumes nothing.
use mathlib.Core.Logic.Iff
use mathlib.Core.Logic.{◌↔◌, ◌⊎◌, ⊎_map}
use mathlib.Core.List.{List}
use Prim.Native.Nat.{ℕ}
use lib.IntN.{ℤ}
use lib.ListN.{length}
use Rattle.reorder.specs.Test.{Decides}
use Rattle.reorder.specs.Jobs.{Hits, Clash}
use Rattle.reorder.specs.Rect.{InAny}
use Rattle.reorder.proofs.Cross.{clash-decides}
use Rattle.job.specs.Row.{Row}
use Rattle.touches.specs.Rects.{reads_of, writes_of, clash_of}
use Rattle.touches.proofs.Exact.{reads-exact, writes-exact, reads-wide, writes-wide}
use Rattle.job_work.specs.Jobs.{jobs}

module _ (W H : ℕ) (differences : List ℤ) where
  -- i writes a sample that j reads or writes
  hits : (i j : Row)
      → ((p : ℕ) × InAny W (writes_of W H (length differences) i) p
      × (InAny W (reads_of W H (length differences) j) p ⊎ InAny W (writes_of W H (length differences) j) p))
      ↔ Hits (jobs W H differences) i j
  hits i j = (
    λ h. (h.0, (writes-exact W H _ i h.0).0 h.1, ⊎_map (reads-exact W H _ j h.0).0 (writes-exact W H _ j h.0).0 h.2),
    λ h. (h.0, (writes-exact W H _ i h.0).1 h.1, ⊎_map (reads-exact W H _ j h.0).1 (writes-exact W H _ j h.0).1 h.2),
  )

  -- "so clashes hang on rows and sizes alone": the test of rectangles is exact
  pub clash-exact : (i j : Row) → Decides (clash_of W H (length differences) i j) (Clash (jobs W H differences) i j)
  unfolding clash_of
  clash-exact i j =
      Iff.trans
      (clash-decides W _ _ _ _ (reads-wide W H _ i) (writes-wide W H _ i) (reads-wide W H _ j) (writes-wide W H _ j))
      (⊎_map (hits i j).0 (hits j i).0, ⊎_map (hits i j).1 (hits j i).1)
