-- `Mix::of` meets its contract: each number is the depth's or a parameter's. Assumes nothing.
use borrow.Author.Rules.{sfits_of}
use borrow.Author.Tests.{ltb-true}
use mathlib.Core.Path.{◌≡◌, refl, sym, ◌∙◌, ap, subst}
use mathlib.Core.Bool.{true, ◌&&◌}
use Prim.Native.Nat.{ℕ, ◌^◌, ◌≤◌, ◌<◌}
use native.Mathlib.Omega.{arith}
use lib.Dec.{ltb}
use lib.IntN.{pos, nat_abs, ◌+ℤ◌}
use lib.Signed.{shr_z}
use mir.Syntax.{w32}
use mir.Val.{SFits}
use mir.Facts.{to_z-of_z}
use Rattle.numbers.specs.Depth.{most}
use Rattle.numbers.proofs.Agree.{depth-all}
use Rattle.signed.proofs.Bound.{back, back-abs, sfits-abs}
use Rattle.signed.proofs.Range.{and_both}
use Rattle.fixed_product.specs.Product.{mul_fixed}
use Rattle.fixed_product.proofs.Bounds.{mul-pos}
use Rattle.fixed_product.proofs.Thru.{thru}
use Rattle.colour_terms.specs.Terms.{middle}
use Rattle.colour_terms.proofs.Most.{most-all}
use Rattle.colour_row.specs.Sample.{third_of}
use Rattle.colour_row.proofs.mix.Mix.of.Goals as goal
use Rattle.colour_row.proofs.mix.Mix.of.Lts as lts
use Rattle.colour_row.proofs.mix.Mix.of.Reads as reads
use Rattle.colour_row.proofs.mix.Mix.of.Tie as tie

abbrev At-After-mul_fixed32_adapt-third : Type 0
At-After-mul_fixed32_adapt-third = lts.After-mul_fixed32_adapt tie.the-claims reads.Pre reads.Post

abbrev At-Start : Type 0
At-Start = lts.Start tie.the-claims reads.Pre reads.Post

module _ (c : goal.After-max_of-m) where
  abbrev s : At-Start
  s = c.before

  abbrev D : ℕ
  D = s.args.d

  m= : thru c.max_of-m.result ≡ pos (most D)
  m= = back w32 {z = c.max_of-m.result} (sfits_of c.max_of-m.type_inv) ∙ c.max_of-m.ensures

  next_fits : SFits w32 (pos (most D) +ℤ pos 1)
  next_fits = sfits-abs w32 _ (omega (arith, most-all D s.requires))

  mid-is : shr_z (pos (most D) +ℤ pos 1) 2 ≡ pos (middle D)
  mid-is = depth-all (λ x. shr_z (pos (most x) +ℤ pos 1) 2 ≡ pos (middle x)) D (refl, (refl, (refl, tt))) s.requires

  mid= : thru (shr_z (thru (thru c.max_of-m.result +ℤ pos 1)) 2) ≡ pos (middle D)
  mid= =
      ap (λ z. thru (shr_z (thru (z +ℤ pos 1)) 2)) m=
      ∙ ap (λ z. thru (shr_z z 2)) (to_z-of_z next_fits)
      ∙ ap thru mid-is
      ∙ back-abs w32 (pos (middle D)) (omega (arith, most-all D s.requires))

pub overflow_add-mid : goal.overflow_add-mid
overflow_add-mid c = simp (m= c) (next_fits c)

pub overflow_cast-m : goal.overflow_cast-m
overflow_cast-m c =
    let m = c.before.before.before.before.before in
    simp (m= m) (tt, record { fits = omega (arith, most-all (D m) (s m).requires) })

module _ (c : At-After-mul_fixed32_adapt-third) where
  abbrev e : goal.After-max_of-m
  e = c.before

  third= : thru c.mul_fixed32_adapt-third.result ≡ third_of (D e) (s e).args.p2
  third= =
      back w32 {z = c.mul_fixed32_adapt-third.result} (sfits_of c.mul_fixed32_adapt-third.type_inv)
      ∙ c.mul_fixed32_adapt-third.ensures
      ∙ (λ j. mul_fixed (to_z-of_z (s e).ranges.p2 j) (mid= e j) 16)

  third-small : nat_abs (thru c.mul_fixed32_adapt-third.result) ≤ 2 ^ 29
  third-small =
      let D = D e in
      let m = most-all D (s e).requires in
      subst (λ z. nat_abs z ≤ 2 ^ 29) (sym third=)
      (mul-pos (s e).args.p2 (pos (middle D)) (s e).ranges.p2 (sfits-abs w32 (pos (middle D)) (omega arith)) (middle D) 16 refl)

-- the limits are told, and M is below both
below : (M l0 l1 x y : ℕ) → l0 ≡ x → l1 ≡ y → (ltb M l0 && ltb M l1) ≡ true → (M < x) × (M < y)
below M l0 l1 x y p q h =
    let b = and_both (ltb M l0) (ltb M l1) h in
    (subst (λ l. M < l) p (ltb-true M l0 b.0), subst (λ l. M < l) q (ltb-true M l1 b.1))

pub returns : goal.returns
returns c =
    let h1 = c.before in
    let h0 = h1.before in
    let l1 = h0.before in
    let l0 = l1.before in
    let t = l0.before in
    let m = t.before in
    let s = s m in
    let is = simp (m= m) at c.is_below.ensures in (
      record {
        depth = s.requires;
        mid = mid= m;
        max = m= m;
        third = third-small t;
        half0 = back w32 {z = h0.half.result} (sfits_of h0.half.type_inv) ∙ h0.half.ensures;
        half1 = back w32 {z = h1.half-2.result} (sfits_of h1.half-2.type_inv) ∙ h1.half-2.ensures;
        short = λ y. record {
          first = (below (most (D m)) _ _ _ _ l0.limit-limit0.ensures l1.limit-limit1.ensures (sym is ∙ y)).0;
          second = (below (most (D m)) _ _ _ _ l0.limit-limit0.ensures l1.limit-limit1.ensures (sym is ∙ y)).1;
        };
      },
      record { bits = refl; first = to_z-of_z s.ranges.p0; second = to_z-of_z s.ranges.p1; third = third= t },
    )
