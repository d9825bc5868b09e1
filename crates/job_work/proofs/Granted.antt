-- What a job that is not refused can count on: its block and what it reads lie in the plane, its edges are in 0..M, and so is what it predicts.
-- Assumes nothing.
use mathlib.Core.Path.{◌≡◌, sym, ◌∙◌, ap}
use mathlib.Core.List.{List, [], ◌∷◌}
use Prim.Native.Nat.{ℕ, ◌+◌, ◌-◌, ◌*◌, ◌≤◌}
use native.Mathlib.Nat.{mul_comm}
use native.Mathlib.Omega.{arith}
use lib.Arith.{digits_lt}
use lib.IntN.{ℤ, pos}
use lib.Ieee.{Float}
use lib.ListN.{length, get_or}
use Rattle.numbers.specs.Depth.{most}
use Rattle.lists.specs.Fill.{tab}
use Rattle.lists.proofs.Fill.{length-tab, filled-all, filled_at}
use Rattle.direct_calls.specs.Given.{Given}
use Rattle.edge_line.specs.Edge.{entry_of}
use Rattle.block_spec.specs.Behind.{above_behind, left_behind, corner_behind}
use Rattle.sides.specs.Values.{value_of, above_of, left_of}
use Rattle.edges.specs.Refs.{corner_of}
use Rattle.block_spec.proofs.Placed.{small}
use Rattle.edges.proofs.Given.{built-given}
use Rattle.job.specs.declared.job.Job.{Job}
use Rattle.job_work.specs.Written.{above_edge, left_edge, corner_entry}
use Rattle.paint.specs.Block.{Room}
use Rattle.modes.specs.Ready.{Ready}
use Rattle.job_work.specs.Granted.{Tested, Granted}

module _ {W n size : ℕ} {job : Job} (g : Tested W n size job) where
  pub room : Room size W job.spec.x job.spec.y job.spec.b
  room =
      let p = g.place in
      let s = p.stands in
      record {
        wide = s.columns;
        some = s.side.0;
        small = small p;
        near = p.sides.0;
        side = s.side.1;
        lies = λ r h. omega (arith, p.whole, mul_comm W p.H, s.columns, digits_lt {q = job.spec.y + r} {m = p.H} {r = job.spec.x + job.spec.b - 1} {c = W} (omega (arith, s.rows)) (omega (arith, s.side, s.columns)), s.side);
      }

module _ {W n : ℕ} {job : Job} {plane : List Float} (g : Granted W n job plane) where
  abbrev B : ℕ
  B = job.spec.b

  abbrev M : ℕ
  M = most job.spec.d

  -- ---- the edges, as they are built in lists of 128
  pub above-is : (above : List ℤ) → length above ≡ 128 → above_of plane W job.spec above ≡ above_edge W job.spec plane
  unfolding above_edge
  above-is above la = filled-all 128 _ above (sym la) ∙ ap (λ m. tab m (entry_of B (λ c. value_of W plane (above_behind job.spec c)))) la

  pub left_is : (left : List ℤ) → length left ≡ 128 → left_of plane W job.spec left ≡ left_edge W job.spec plane
  unfolding left_edge
  left_is left ll = filled-all 128 _ left (sym ll) ∙ ap (λ m. tab m (entry_of B (λ c. value_of W plane (left_behind job.spec c)))) ll

  corner-is : get_or (corner_of plane W job.spec (pos 0 ∷ [])) 0 (pos 0) ≡ corner_entry W job.spec plane
  unfolding corner_entry
  corner-is = filled_at 1 (λ i. value_of W plane (corner_behind job.spec)) (pos 0 ∷ []) 0 (pos 0) (omega arith)

  abbrev zeros : List ℤ
  zeros = tab 128 (λ i. pos 0)

  -- what is predicted from
  pub given : (m : ℕ) → B * B ≤ m → Given B M (above_edge W job.spec plane) (left_edge W job.spec plane) (corner_entry W job.spec plane) m
  given m h =
      let l = length-tab 128 (λ i. pos 0) in
      rw (above-is zeros l, left_is zeros l, corner-is) at
      (built-given plane (record { above = zeros; left = zeros; corner = pos 0 ∷ [] }) m g.tested.place g.read (omega (arith, l)) (omega (arith, l)) h)

  -- the same of lists that are these edges
  pub ready_at : (a l : List ℤ) (k : ℤ) (m : ℕ) → a ≡ above_edge W job.spec plane → l ≡ left_edge W job.spec plane → k ≡ corner_entry W job.spec plane
      → B * B ≤ m → Ready job a l k m
  ready_at a l k m ea el ek h = rw (ea, el, ek) (record { given = given m h; depth = g.tested.place.stands.is-depth; turns = g.tested.turns })
