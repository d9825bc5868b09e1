-- What the tests of a run have shown: a plan of whole rows, and an order that may be walked. Assumes nothing.
use mathlib.Core.Path.{◌≡◌}
use mathlib.Core.Bool.{true, ◌&&◌}
use mathlib.Core.List.{List}
use Prim.Native.Nat.{ℕ, ◌*◌, ◌%◌, ◌≤◌}
use native.Mathlib.Omega.{arith}
use lib.Dec.{leb, eqb}
use lib.ListN.{length}
use borrow.Author.Tests.{eqb-true, leb-true}
use Rattle.signed.proofs.Range.{and_both}
use Rattle.reorder.specs.Check.{once_b}
use Rattle.order.specs.Rules.{jobs_in}
use Rattle.order.specs.Window.{Walk}
use Rattle.run_rules.specs.Rules.{is_plan}

module _ (plan order : List ℕ) (answers : ℕ) (e : is_plan plan (length order) answers ≡ true) where
  pub parts : (length plan % 16 ≡ 0) × (jobs_in plan ≤ 1024) × (length order ≡ jobs_in plan) × (answers ≡ jobs_in plan)
  unfolding is_plan
  parts =
      let q = and_both (eqb (length plan % 16) 0 && leb (jobs_in plan) 1024 && eqb (length order) (jobs_in plan)) _ e in
      let r = and_both (eqb (length plan % 16) 0 && leb (jobs_in plan) 1024) _ q.0 in
      let t = and_both (eqb (length plan % 16) 0) _ r.0 in
      (eqb-true _ _ t.0, leb-true _ _ t.1, eqb-true _ _ r.1, eqb-true _ _ q.1)

  pub entries : length order ≡ jobs_in plan
  entries = parts.2

  pub slots : answers ≡ jobs_in plan
  slots = parts.3

  pub few : length order ≤ 1024
  few = omega (arith, parts.1, parts.2)

  pub whole : length plan ≡ 16 * length order
  whole = omega (arith, parts.0, parts.2)

  pub walk : (W H : ℕ) → (W ≤ 4096) × (H ≤ 4096) → once_b (length order) order ≡ true → Walk W H plan order
  walk W H s o = record { wide = s.0; high = s.1; whole = whole; few = few; once = o }
