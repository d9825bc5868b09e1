-- `both_in_range` meets its contract. Assumes nothing.
use Prim.Native.Nat.{ℕ, ◌+◌}
use native.Mathlib.Numerals.{add-one}
use mathlib.Core.Path.{◌≡◌, refl, ◌∙◌}
use mathlib.Core.Bool.{Bool, true, false, ◌&&◌}
use mathlib.Core.List.{List}
use lib.IntN.{ℤ, pos}
use lib.ListN.{get_or}
use mir.Syntax.{w32}
use mir.Val.{to_z, of_z}
use Rattle.std.proofs.Common.{rules}
use Rattle.signed.specs.Range.{inside, all_inside}
use Rattle.direct_calls.proofs.range.both_in_range.Goals as goal

-- a test more of each list, in the order of the code and in that of the definition
regroup : (a b x y : Bool) → (a && b && (x && y)) ≡ ((a && x) && (b && y))
regroup true true true y = refl
regroup true true false y = refl
regroup true false true y = refl
regroup true false false y = refl
regroup false b x y = refl

-- one entry more of both lists
more : (M : ℤ) (xs ys : List ℤ) (i : ℕ) (ok x y : Bool) → ok ≡ (all_inside M xs i && all_inside M ys i)
    → x ≡ inside M (get_or xs i (pos 0)) → y ≡ inside M (get_or ys i (pos 0))
    → (ok && (x && y)) ≡ (all_inside M xs (i + 1) && all_inside M ys (i + 1))
unfolding all_inside
more M xs ys i ok x y e p q =
    rw add-one ((λ j. e j && (p j && q j)) ∙ regroup (all_inside M xs i) (all_inside M ys i) (inside M (get_or xs i (pos 0))) (inside M (get_or ys i (pos 0))))

pub loop-i-preserved : goal.loop-i-preserved
loop-i-preserved c =
    let M = to_z w32 (of_z w32 c.args.m) in
    let x : c.in_range.result ≡ inside M (get_or c.args.xs.now c.loop-i.i (pos 0)) = search rules in
    let y : c.in_range-in-loop-i.result ≡ inside M (get_or c.args.ys.now c.loop-i.i (pos 0)) = search rules in
    more _ _ _ c.loop-i.i _ _ _ c.loop-i.invariant x y
