-- Parts of a list that are lent to the end are the runs that start there. Assumes nothing.
use mathlib.Core.Path.{◌≡◌, sym, subst}
use mathlib.Core.List.{List}
use Prim.Native.Nat.{ℕ, ◌+◌, ◌-◌, ◌<◌}
use native.Mathlib.Omega.{arith}
use lib.IntN.{ℤ, pos}
use lib.ListN.{length, take, drop}
use Rattle.lists.proofs.Fill.{rest-length, rest_at}
use Rattle.colour_row.specs.Mixed.{Luma, mixed}
use Rattle.colour_row.specs.Runs.{at, Runs, RunsAt}
use Rattle.colour_row.specs.declared.mix.Mix.{Mix}

-- a part that is lent to the end, `&luma[s..]`
abbrev rest : ℕ → List ℤ → List ℤ
rest s luma = take (length luma - s) (drop s luma)

module _ (k : Mix) (luma : List ℤ) (near centre n : ℕ) (r : RunsAt k luma near centre n) where
  pub runs_of : Runs k (rest near luma) (rest centre luma) n
  runs_of = record {
    near-long = omega (arith, rest-length near luma, r.near-long);
    centre-long = omega (arith, rest-length centre luma, r.centre-long);
    near-in = λ i h. subst (Luma k) (sym (rest_at near luma i (pos 0) (omega (arith, r.near-long)))) (r.near-in i h);
    centre-in = λ i h. subst (Luma k) (sym (rest_at centre luma i (pos 0) (omega (arith, r.centre-long)))) (r.centre-in i h);
  }

  pub runs_same : (i : ℕ) → i < n → mixed k (at (rest near luma) i) (at (rest centre luma) i) ≡ mixed k (at luma (near + i)) (at luma (centre + i))
  runs_same i h =
      let p = rest_at near luma i (pos 0) (omega (arith, r.near-long)) in
      let q = rest_at centre luma i (pos 0) (omega (arith, r.centre-long)) in
      λ j. mixed k (p j) (q j)
