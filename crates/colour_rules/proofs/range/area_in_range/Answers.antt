-- `area_in_range` meets its contract. Assumes nothing.
use Prim.Native.Nat.{ℕ, ◌+◌, ◌-◌, ◌*◌, ◌≤◌}
use native.Mathlib.Omega.{arith}
use native.Mathlib.Numerals.{add-one}
use mathlib.Core.Path.{◌≡◌, refl, ◌∙◌, ap}
use mathlib.Core.Bool.{Bool, ◌&&◌}
use mathlib.Core.List.{List}
use lib.IntN.{ℤ, pos}
use lib.ListN.{length, get_or, take, drop, length-take, length-drop}
use lib.Seq.{get_or-drop, get_or-take}
use Rattle.signed.specs.Range.{inside}
use Rattle.edge_line.specs.Every.{every}
use Rattle.edge_line.proofs.Every.{every-same}
use Rattle.colour_rules.proofs.range.area_in_range.Goals as goal

-- a run that is lent is n entries from o on
run_is : (m : ℤ) (luma : List ℤ) (o n : ℕ) → o + n ≤ length luma
    → every (λ i. inside m (get_or (take (o + n - o) (drop o luma)) i (pos 0))) (length (take (o + n - o) (drop o luma)))
    ≡ every (λ i. inside m (get_or luma (o + i) (pos 0))) n
run_is m luma o n h =
    let e : length (take (o + n - o) (drop o luma)) ≡ n = simp (length-take, length-drop) (omega arith) in
    rw e
    (every-same _ _ n (λ i l. ap (inside m) (get_or-take (o + n - o) (drop o luma) i (pos 0) (omega arith) ∙ get_or-drop o luma i (pos 0))))

-- one row more
more : (f : ℕ → Bool) (j : ℕ) (ok here : Bool) → ok ≡ every f j → here ≡ f j → (ok && here) ≡ every f (j + 1)
unfolding every
more f j ok here e p = rw add-one (λ x. e x && p x)

pub loop-j-init : goal.loop-j-init
unfolding every
loop-j-init c = refl

pub loop-j-preserved : goal.loop-j-preserved
loop-j-preserved c =
    let o = c.args.s + c.loop-j.j * 256 in
    more _ c.loop-j.j _ _ c.loop-j.invariant
    (c.run_in_range-ok.ensures ∙ run_is _ c.args.luma.now o c.args.width (c.requires.lies c.loop-j.j c.loop-j-test.true))
