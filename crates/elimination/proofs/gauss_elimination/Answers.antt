-- `gauss_elimination` meets its contract: each call's result is the definition's, read back from its bits. Assumes nothing.
use mathlib.Core.Path.{◌≡◌, sym, ap, ap₂, ◌∙◌, subst}
use Prim.Native.Nat.{◌+◌, ◌≤◌, ◌^◌}
use native.Mathlib.Omega.{arith}
use lib.IntN.{ℤ, nat_abs}
use Rattle.elimination.specs.declared.rows.Row.{Row}
use Rattle.elimination.specs.declared.rows.Pair.{Pair}
use Rattle.elimination.specs.Rows.{unit, row, unit_row, reduced_row, unit_pair, reduced_pair, RowIn}
use Rattle.elimination.specs.Elimination.{first_row, second_row, third_row, second_pair, third_pair, backward, solved}
use Rattle.elimination.proofs.Read.{same, read}
use Rattle.elimination.proofs.gauss_elimination.Goals as goal

bounded : (r : Row) (y z t : ℤ) → r ≡ row y z t → nat_abs y ≤ 2 ^ 22 + 32 → nat_abs z ≤ 2 ^ 22 + 32 → nat_abs t ≤ 2 ^ 22 + 32 → RowIn (2 ^ 22 + 32) r
bounded r y z t e a b c = subst (RowIn (2 ^ 22 + 32)) (sym e) (record { y = a; rest = record { z = b; t = c } })

pub less-r-requires : goal.less-r-requires
less-r-requires c =
    let s = c.args.s in
    let i = c.requires.0 in
    let g = read s c.args.reg i c.requires.1 in
    bounded _ _ _ _ (simp (g.a11=, g.reg=, g.a11+, g.a12=, g.y1=) at c.of-3.ensures) g.a11-most (omega (arith, i.a12)) (omega (arith, i.y1))

pub less-q-requires : goal.less-q-requires
less-q-requires c =
    let s = c.args.s in
    let i = c.requires.0 in
    let g = read s c.args.reg i c.requires.1 in
    bounded _ _ _ _ (simp (g.a22=, g.reg=, g.a22+, g.a12=, g.y2=) at c.of-4.ensures) (omega (arith, i.a12)) g.a22-most (omega (arith, i.y2))

-- the first row
first : (c : goal.After-backward) → c.unit_row-u.result ≡ first_row c.args.s c.args.reg
unfolding first_row
first c =
    let g = read c.args.s c.args.reg c.requires.0 c.requires.1 in
    c.unit_row-u.ensures.0
    ∙ ap₂ unit_row
    (simp (g.a00=, g.reg=, g.a00+) at c.of.ensures)
    (simp (g.a01=, g.a02=, g.y0=) at c.of-2.ensures)

-- the second
second : (c : goal.After-backward) → c.less-r.result ≡ second_row c.args.s c.args.reg
unfolding second_row
second c =
    let g = read c.args.s c.args.reg c.requires.0 c.requires.1 in
    (simp g.a01= at c.less-r.ensures.0)
    ∙ ap₂ (λ (r u : Row). reduced_row r c.args.s.a01 u) (simp (g.a11=, g.reg=, g.a11+, g.a12=, g.y1=) at c.of-3.ensures) (first c)

-- the third
third : (c : goal.After-backward) → c.less-q.result ≡ third_row c.args.s c.args.reg
unfolding third_row
third c =
    let g = read c.args.s c.args.reg c.requires.0 c.requires.1 in
    (simp g.a02= at c.less-q.ensures.0)
    ∙ ap₂ (λ (r u : Row). reduced_row r c.args.s.a02 u) (simp (g.a22=, g.reg=, g.a22+, g.a12=, g.y2=) at c.of-4.ensures) (first c)

-- the second without its first unknown
pair : (c : goal.After-backward) → c.unit_pair-v.result ≡ second_pair c.args.s c.args.reg
unfolding second_pair
pair c =
    let q = c.less-r.result in
    let h = c.less-r.ensures.1 in
    c.unit_pair-v.ensures.0
    ∙ ap (λ (p : ℤ). unit_pair p q.rest) (simp (same q.y (omega (arith, h.y))) at c.of-5.ensures)
    ∙ ap (λ (x : Row). unit_pair x.y x.rest) (second c)

-- the third without its first two
last : (c : goal.After-backward) → c.less-w.result ≡ third_pair c.args.s c.args.reg
unfolding third_pair
last c =
    let q = c.less-q.result in
    let h = c.less-q.ensures.1 in
    (simp (same q.y (omega (arith, h.y))) at c.less-w.ensures.0)
    ∙ ap₂ (λ (x : Row) (v : Pair). reduced_pair x.rest x.y v) (third c) (pair c)

-- the last unknown
x2 : (c : goal.After-backward) → c.unit.result ≡ unit (third_pair c.args.s c.args.reg).z (third_pair c.args.s c.args.reg).t
x2 c =
    let q = c.less-w.result in
    let h = c.less-w.ensures.1 (2 ^ 22 + 32 + 2 ^ 29) c.less-q.ensures.1.rest in
    (simp (same q.t (omega (arith, h.t))) at c.unit.ensures.0)
    ∙ ap (λ (p : ℤ). unit p q.t) (simp (same q.z (omega (arith, h.z))) at c.of-6.ensures)
    ∙ ap (λ (v : Pair). unit v.z v.t) (last c)

pub returns : goal.returns
unfolding solved
returns c =
    let e = simp (same c.unit.result (omega (arith, c.unit.ensures.1))) at c.backward.ensures.0 in
    (e ∙ (λ j. backward (first c j) (pair c j) (x2 c j)), c.backward.ensures.1)
