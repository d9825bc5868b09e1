-- `all_samples` meets its contract. The invariant: ok tells of the first j rows, and o is where row j starts. Assumes nothing.
use Prim.Native.Nat.{ℕ, ◌+◌, ◌*◌}
use native.Mathlib.Nat.{add-mul}
use native.Mathlib.Numerals.{add-one}
use native.Mathlib.Omega.{arith}
use mathlib.Core.Path.{◌≡◌, refl, sym, ◌∙◌, ap}
use mathlib.Core.Bool.{Bool, ◌&&◌}
use mathlib.Core.List.{List}
use lib.IntN.{ℤ}
use lib.Ieee.{Float, nan}
use lib.ListN.{get_or}
use mir.Facts.{to_z-of_z}
use Rattle.samples.specs.Sample.{is_sample}
use Rattle.edge_line.specs.Every.{every}
use Rattle.edge_line.specs.Run.{run_at}
use Rattle.edge_line.proofs.Every.{every-same}
use Rattle.plane_windows.specs.Lies.{place_at}
use Rattle.plane_windows.proofs.Lies.{size-most, row-end, start-most, first-most}
use Rattle.plane_windows.proofs.range.all_samples.Invariants.{row_in}
use Rattle.plane_windows.proofs.range.all_samples.Goals as goal

-- a run of it is the row
run_is : (m : ℤ) (plane : List Float) (W x y w o j : ℕ) (here : Bool) → o ≡ (y + j) * W + x → here ≡ every (λ i. is_sample m (run_at plane o 1 i)) w
    → here ≡ row_in m plane W x y w j
run_is m plane W x y w o j here e t =
    t ∙ every-same _ _ w (λ i l. let q : o + i * 1 ≡ place_at W x y i j = omega arith in ap (λ k. is_sample m (get_or plane k nan)) q)

-- one row more
more : (f : ℕ → Bool) (j : ℕ) (ok here : Bool) → ok ≡ every f j → here ≡ f j → (ok && here) ≡ every f (j + 1)
unfolding every
more f j ok here e p = rw add-one (λ x. e x && p x)

pub overflow_mul-o : goal.overflow_mul-o
overflow_mul-o c = omega (arith, first-most c.requires.0)

pub overflow_add-o : goal.overflow_add-o
overflow_add-o c = omega (arith, first-most c.requires.0)

pub loop-j-init : goal.loop-j-init
unfolding every
loop-j-init c =
    let a = c.args in
    let z : a.p.y + 0 ≡ a.p.y = omega arith in
    (omega arith, ap (λ t. t * a.width + a.p.x) (sym z), refl)

pub run_in_range-here-requires : goal.run_in_range-here-requires
run_in_range-here-requires c =
    let k = c.before in
    let s = k.before.before in
    let l = s.requires.0 in (
      record {
        lies = λ i h. omega (arith, row-end l k.loop-j.j c.loop-j-test.true, k.loop-j.invariant.1);
        near = omega arith;
        small = size-most l;
      },
      rw (to_z-of_z s.ranges.m) s.requires.1,
    )

pub overflow_add-o-in-loop-j : goal.overflow_add-o-in-loop-j
overflow_add-o-in-loop-j c =
    let k = c.before.before in
    let l = k.requires.0 in
    omega (arith, start-most l k.loop-j.j k.loop-j.invariant.0, k.loop-j.invariant.1, l.sides)

pub overflow_add-j : goal.overflow_add-j
overflow_add-j c = omega arith

pub loop-j-smaller : goal.loop-j-smaller
loop-j-smaller c = omega arith

pub loop-j-preserved : goal.loop-j-preserved
loop-j-preserved c =
    let k = c.before.before in
    let a = k.args in
    let here = run_is _ a.plane.now a.width a.p.x a.p.y a.p.w k.loop-j.o k.loop-j.j _ k.loop-j.invariant.1
    c.run_in_range-here.ensures in
    let e : a.p.y + (k.loop-j.j + 1) ≡ a.p.y + k.loop-j.j + 1 = omega arith in (
      omega arith,
      omega (arith, ap (λ t. t * a.width) e, add-mul (a.p.y + k.loop-j.j) 1 a.width, k.loop-j.invariant.1),
      more _ k.loop-j.j _ _ k.loop-j.invariant.2 here,
    )

pub returns : goal.returns
returns c =
    let s = c.before.before.before in
    let j : c.loop-j.j ≡ s.args.p.h = omega arith in
    c.loop-j.invariant.2 ∙ rw (j, to_z-of_z s.ranges.m)
