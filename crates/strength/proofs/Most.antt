-- A filter strength is at most 3 (document 01, Directions). Assumes nothing.
use mathlib.Core.Bool.{Bool, true, false, cond}
use Prim.Native.Nat.{ℕ, ◌≤◌}
use native.Mathlib.Omega.{arith}
use lib.Dec.{leb}
use Rattle.strength.specs.Strength.{plain_strength, softer_strength, strength}

pick : (t : Bool) {a b : ℕ} → a ≤ 3 → b ≤ 3 → cond t a b ≤ 3
pick true h k = h
pick false h k = k

plain-most : (wh d : ℕ) → plain_strength wh d ≤ 3
unfolding plain_strength
plain-most wh d =
    pick (leb wh 8) (pick (leb 56 d) (omega arith) (omega arith))
    (pick (leb wh 16) (pick (leb 40 d) (omega arith) (omega arith))
    (pick (leb wh 24) (pick (leb 32 d) (omega arith) (pick (leb 16 d) (omega arith) (pick (leb 8 d) (omega arith) (omega arith))))
    (pick (leb wh 32) (pick (leb 32 d) (omega arith) (pick (leb 4 d) (omega arith) (pick (leb 1 d) (omega arith) (omega arith))))
    (pick (leb 1 d) (omega arith) (omega arith)))))

softer-most : (wh d : ℕ) → softer_strength wh d ≤ 3
unfolding softer_strength
softer-most wh d =
    pick (leb wh 8) (pick (leb 64 d) (omega arith) (pick (leb 40 d) (omega arith) (omega arith)))
    (pick (leb wh 16) (pick (leb 48 d) (omega arith) (pick (leb 20 d) (omega arith) (omega arith)))
    (pick (leb wh 24) (pick (leb 4 d) (omega arith) (omega arith))
    (pick (leb 1 d) (omega arith) (omega arith))))

pub strength-most : (filter smooth : Bool) (wh d : ℕ) → strength filter smooth wh d ≤ 3
unfolding strength
strength-most filter smooth wh d = pick filter (pick smooth (softer-most wh d) (plain-most wh d)) (omega arith)
