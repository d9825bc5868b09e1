-- Two jobs of a tower clash exactly when the test of their rectangles says so. Assumes nothing.
use mathlib.Core.Logic.Iff
use mathlib.Core.Logic.{◌↔◌, ◌⊎◌, ⊎_map}
use mathlib.Core.List.{List}
use Prim.Native.Nat.{ℕ}
use lib.IntN.{ℤ}
use lib.ListN.{length}
use Rattle.reorder.specs.Test.{Decides}
use Rattle.reorder.specs.Jobs.{Hits, Clash}
use Rattle.planes.specs.Three.{PlanePlace}
use Rattle.planes.specs.Rects.{PlaneRect, InAnyPlane}
use Rattle.planes.proofs.Tall.{planes-decide}
use Rattle.job.specs.Row.{Row}
use Rattle.tower_touches.specs.Rects.{tower_reads, tower_writes, tower_clash}
use Rattle.tower_touches.proofs.Within.{reads-within, writes-within}
use Rattle.tower_touches.proofs.Exact.{tower-reads-exact, tower-writes-exact}
use Rattle.tower_work.specs.Jobs.{tower_jobs}

module _ (W H : ℕ) (differences : List ℤ) where
  abbrev reads : Row → List PlaneRect
  reads row = tower_reads W H (length differences) row

  abbrev writes : Row → List PlaneRect
  writes row = tower_writes W H (length differences) row

  -- i writes a sample that j reads or writes
  hits : (i j : Row) → ((q : PlanePlace) × InAnyPlane W (writes i) q × (InAnyPlane W (reads j) q ⊎ InAnyPlane W (writes j) q))
      ↔ Hits (tower_jobs W H differences) i j
  hits i j = (
    λ (q, w, t). (q, (tower-writes-exact W H _ i q).0 w, ⊎_map (tower-reads-exact W H _ j q).0 (tower-writes-exact W H _ j q).0 t),
    λ (q, w, t). (q, (tower-writes-exact W H _ i q).1 w, ⊎_map (tower-reads-exact W H _ j q).1 (tower-writes-exact W H _ j q).1 t),
  )

  -- clashes hang on rows and sizes alone: the test of rectangles is exact
  pub tower-clash-exact : (i j : Row) → Decides (tower_clash W H (length differences) i j) (Clash (tower_jobs W H differences) i j)
  unfolding tower_clash
  tower-clash-exact i j =
      Iff.trans
      (planes-decide W H (reads i) (writes i) (reads j) (writes j)
      (reads-within W H _ i) (writes-within W H _ i) (reads-within W H _ j) (writes-within W H _ j))
      (⊎_map (hits i j).0 (hits j i).0, ⊎_map (hits i j).1 (hits j i).1)
