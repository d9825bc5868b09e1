-- The table of a plan has the rectangles of its rows, so that two rows of it clash if their jobs do, and an order is kept by the one as by the other.
-- Assumes nothing.
use mathlib.Core.Path.{◌≡◌, refl, ◌∙◌, ap}
use mathlib.Core.Bool.{Bool, true, false, cond}
use mathlib.Core.List.{List, [], ◌∷◌, ◌++◌}
use Prim.Native.Nat.{ℕ, ◌<◌}
use native.Mathlib.Omega.{arith}
use lib.IntN.{ℤ}
use lib.ListN.{length, take, drop, get_or}
use Rattle.reorder.specs.Rect.{Rect}
use Rattle.reorder.specs.Check.{kept_b}
use Rattle.reorder.proofs.Check.{kept_same}
use Rattle.planes.specs.Rects.{talls}
use Rattle.job.specs.Row.{Row}
use Rattle.rect_order.specs.Table.{reads_in, writes_in, clash_in}
use Rattle.tower_job.specs.Row.{tower_row, is_colour_mode}
use Rattle.tower_job.specs.Rules.{tower_stands}
use Rattle.tower_touches.specs.Rects.{nothing, rects_by, tower_reads, tower_writes, tower_clash}
use Rattle.tower_order.specs.Rules.{is_tower_kept}
use Rattle.tower_rects.specs.Rows.{nothings, row_rects}
use Rattle.tower_order.specs.Tables.{Filled, TowerWalk}
use Rattle.tower_order.proofs.Entries.{tower-jobs-in}
use Rattle.tower_rects.proofs.Clash.{six_clash, six-is}

-- the first six of a list
abbrev first_six : List Rect → List Rect
first_six Rs = get_or Rs 0 nothing ∷ get_or Rs 1 nothing ∷ get_or Rs 2 nothing ∷ get_or Rs 3 nothing ∷ get_or Rs 4 nothing ∷ get_or Rs 5 nothing ∷ []

-- which are all that a row has
all-six : (W H n : ℕ) (row : Row) → first_six (row_rects W H n row) ≡ row_rects W H n row
unfolding tower_reads tower_writes
all-six W H n row = go (tower_stands W H n row) (is_colour_mode row)
  where
    go : (b m : Bool) → first_six (cond b (talls H (tower_writes W H n row) ++ talls H (rects_by m (tower_stands W H n row) row)) nothings)
        ≡ cond b (talls H (tower_writes W H n row) ++ talls H (rects_by m (tower_stands W H n row) row)) nothings
    go true true = refl
    go true false = refl
    go false m = refl

module _ (W H n : ℕ) (plan : List ℕ) (table : List ℤ) (m : ℕ) (f : Filled W H n plan table m) where
  rects-are : (i : ℕ) → i < m → writes_in table i ++ reads_in table i ≡ row_rects W H n (tower_row plan i)
  rects-are i h =
      let r = f.rows i h in
      let e0 = r 0 (omega arith) in
      let e1 = r 1 (omega arith) in
      let e2 = r 2 (omega arith) in
      let e3 = r 3 (omega arith) in
      let e4 = r 4 (omega arith) in
      let e5 = r 5 (omega arith) in
      (λ t. e0 t ∷ e1 t ∷ e2 t ∷ e3 t ∷ e4 t ∷ e5 t ∷ []) ∙ all-six W H n (tower_row plan i)

  -- a row that stands: what it writes and reads, in the tall picture
  module _ (i : ℕ) (h : i < m) (e : tower_stands W H n (tower_row plan i) ≡ true) where
    pub writes-in : writes_in table i ≡ talls H (tower_writes W H n (tower_row plan i))
    unfolding tower_writes
    writes-in = ap (take 1) (rects-are i h) ∙ rw e

    pub reads-in : reads_in table i ≡ talls H (tower_reads W H n (tower_row plan i))
    unfolding tower_writes
    reads-in = ap (drop 1) (rects-are i h) ∙ rw e

  -- a refused row: empty rectangles
  pub refused-in : (i : ℕ) → i < m → tower_stands W H n (tower_row plan i) ≡ false → writes_in table i ++ reads_in table i ≡ nothings
  refused-in i h e = rects-are i h ∙ rw e

  pub clash-is : (i j : ℕ) → i < m → j < m → clash_in table i j ≡ tower_clash W H n (tower_row plan i) (tower_row plan j)
  unfolding clash_in
  clash-is i j h k = (λ t. six_clash (rects-are i h t) (rects-are j k t)) ∙ six-is W H n (tower_row plan i) (tower_row plan j)

pub kept-is : (W H n : ℕ) (plan order : List ℕ) (table : List ℤ) → TowerWalk W H plan order → Filled W H n plan table (length order)
    → kept_b (clash_in table) (length order) order ≡ is_tower_kept W H n plan order
unfolding is_tower_kept
kept-is W H n plan order table w f =
    rw (tower-jobs-in plan order w.whole)
    (kept_same (clash_in table) (λ i j. tower_clash W H n (tower_row plan i) (tower_row plan j)) (length order)
    (λ i j h k. clash-is W H n plan table (length order) f i j (omega arith) k) order)
