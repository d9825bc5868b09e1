-- `read_and_repeat` meets its contract: a run is read, and its last entry repeated. Assumes nothing.
use mathlib.Core.Path.{◌≡◌, ◌∙◌, ap}
use mathlib.Core.List.{List}
use Prim.Native.Nat.{ℕ, ◌+◌, ◌-◌, min}
use native.Mathlib.Omega.{arith}
use lib.IntN.{ℤ, pos}
use lib.ListN.{length, get_or}
use mir.Syntax.{w32}
use mir.Val.{to_z, of_z}
use Rattle.signed.proofs.Bound.{back-pos}
use Rattle.lists.proofs.Fill.{length-filled, filled_at, filled-part}
use Rattle.lists.proofs.Loop.{filled-front}
use Rattle.samples.specs.Sample.{reading}
use Rattle.samples.proofs.Reading.{reading_small}
use Rattle.edge_line.specs.Run.{run_at}
use Rattle.edge_line.proofs.run.read_and_repeat.Goals as goal

pub returns : goal.returns
returns c =
    let a = c.args in
    let xs = a.edge.now in
    let f : ℕ → ℤ = λ i. pos (reading (run_at a.plane.now a.start a.stride (min i (a.end - 1)))) in
    let run : ℕ → ℤ = λ i. pos (reading (run_at a.plane.now a.start a.stride i)) in
    let one =
    filled-front a.end f run xs _ (omega arith) c.read_run.ensures
    (λ i k. let q : i ≡ min i (a.end - 1) = omega arith in ap run q) in
    let long = ap (λ (zs : List ℤ). length zs) one ∙ length-filled a.end f xs (omega arith) in
    let known = ap (λ (zs : List ℤ). get_or zs (a.end - 1) (pos 0)) one ∙ filled_at a.end f xs (a.end - 1) (pos 0) (omega arith) in
    let small = reading_small _ (c.requires.by_index (min (a.end - 1) (a.end - 1)) (omega arith)) in
    let last = ap (λ (z : ℤ). to_z w32 (of_z w32 z)) known ∙ back-pos w32 _ (omega (arith, small)) in
    filled-part a.end a.all f _ xs _ _ (omega arith) (omega (arith, long)) one c.repeat.ensures
    (λ i k. let q : min (a.end - 1) (a.end - 1) ≡ min (a.end + i) (a.end - 1) = omega arith in last ∙ ap run q)
