-- What the tests of a tower's run have shown: a plan of whole rows, and an order that may be walked. Assumes nothing.
use mathlib.Core.Path.{◌≡◌}
use mathlib.Core.Bool.{true, ◌&&◌}
use mathlib.Core.List.{List}
use Prim.Native.Nat.{ℕ, ◌*◌, ◌%◌, ◌≤◌}
use native.Mathlib.Omega.{arith}
use lib.Dec.{leb, eqb}
use lib.ListN.{length}
use borrow.Author.Tests.{eqb-true, leb-true}
use Rattle.signed.proofs.Range.{and_both}
use Rattle.block_spec.specs.Rules.{is_plane}
use Rattle.block_spec.proofs.Placed.{plane-is}
use Rattle.reorder.specs.Check.{once_b}
use Rattle.tower_order.specs.Rules.{tower_jobs_in}
use Rattle.tower_order.specs.Tables.{TowerWalk}
use Rattle.tower_rules.specs.Rules.{are_planes, is_tower_plan}

-- 20 of each plane
pub planes-of : (W H n0 n1 n2 : ℕ) → are_planes W H n0 n1 n2 ≡ true → (is_plane W H n0 ≡ true) × (is_plane W H n1 ≡ true) × (is_plane W H n2 ≡ true)
unfolding are_planes
planes-of W H n0 n1 n2 e =
    let p = and_both (is_plane W H n0 && is_plane W H n1) (is_plane W H n2) e in
    let q = and_both (is_plane W H n0) (is_plane W H n1) p.0 in
    (q.0, q.1, p.1)

pub sides-of : (W H n0 n1 n2 : ℕ) → are_planes W H n0 n1 n2 ≡ true → (W ≤ 4096) × (H ≤ 4096)
sides-of W H n0 n1 n2 e = let p = plane-is W H n0 (planes-of W H n0 n1 n2 e).0 in (p.0, p.1)

module _ (plan order : List ℕ) (answers : ℕ) (e : is_tower_plan plan (length order) answers ≡ true) where
  pub parts : (length plan % 32 ≡ 0) × (tower_jobs_in plan ≤ 1024) × (length order ≡ tower_jobs_in plan) × (answers ≡ tower_jobs_in plan)
  unfolding is_tower_plan
  parts =
      let q = and_both (eqb (length plan % 32) 0 && leb (tower_jobs_in plan) 1024 && eqb (length order) (tower_jobs_in plan)) _ e in
      let r = and_both (eqb (length plan % 32) 0 && leb (tower_jobs_in plan) 1024) _ q.0 in
      let t = and_both (eqb (length plan % 32) 0) _ r.0 in
      (eqb-true _ _ t.0, leb-true _ _ t.1, eqb-true _ _ r.1, eqb-true _ _ q.1)

  pub entries : length order ≡ tower_jobs_in plan
  entries = parts.2

  pub slots : answers ≡ tower_jobs_in plan
  slots = parts.3

  pub few : length order ≤ 1024
  few = omega (arith, parts.1, parts.2)

  pub whole : length plan ≡ 32 * length order
  whole = omega (arith, parts.0, parts.2)

  pub walk : (W H : ℕ) → (W ≤ 4096) × (H ≤ 4096) → once_b (length order) order ≡ true → TowerWalk W H plan order
  walk W H s o = record { wide = s.0; high = s.1; whole = whole; few = few; once = o }
