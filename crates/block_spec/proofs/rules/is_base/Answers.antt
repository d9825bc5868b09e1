-- `is_base` meets its contract: M is a number, and a base in 1..M-1 is below it. Assumes nothing.
use borrow.Author.Rules.{rules}
use borrow.Author.Tests.{le-leb, lt-leb}
use native.Mathlib.Omega.{arith}
use mathlib.Core.Path.{◌≡◌, sym, ap, ◌∙◌}
use mathlib.Core.Bool.{false}
use Prim.Native.Nat.{ℕ, zero, suc, ◌-◌, ◌≤◌}
use lib.Dec.{leb, ltb, leb-suc-zero, leb-suc-suc}
use lib.IntN.{pos}
use lib.Signed.{lt_z}
use mir.Syntax.{w32}
use mir.Val.{SFits}
use Rattle.numbers.specs.Depth.{most}
use Rattle.signed.proofs.Bound.{back}
use Rattle.block_spec.specs.declared.spec.IntraRefSpec.{IntraRefSpec}
use Rattle.block_spec.specs.Rules.{is_base}
use Rattle.block_spec.proofs.rules.is_base.Goals as goal

below : (b M : ℕ) → 1 ≤ b → ltb b M ≡ leb b (M - 1)
below b zero h = leb-suc-zero b ∙ sym (lt-leb b 0 h)
below b (suc n) h = leb-suc-suc b n ∙ ap (leb b) (omega arith)

neither : (s : IntraRefSpec) → s.have_above ≡ false → s.have_left ≡ false → 1 ≤ s.base → ltb s.base (most s.d) ≡ is_base s
unfolding is_base
neither s a l h = simp (a, l, le-leb 1 s.base h) (below s.base (most s.d) h)

pub returns-then-s : goal.returns-then-s
unfolding is_base
returns-then-s c = simp c.if-s.true

pub returns-then-s-2 : goal.returns-then-s-2
unfolding is_base
returns-then-s-2 c = simp (c.if-s.false, c.if-s-2.true)

pub returns-then-s-eq0 : goal.returns-then-s-eq0
unfolding is_base
returns-then-s-eq0 c = simp (c.if-s.false, c.if-s-2.false, c.if-s-eq0.true)

pub returns : goal.returns
returns c =
    let fits : SFits w32 (pos c.args.s.base) = search rules in
    (λ j. lt_z (back w32 {z = pos c.args.s.base} fits j) ((back w32 c.ranges.m ∙ c.requires) j))
    ∙ neither c.args.s c.if-s.false c.if-s-2.false (omega arith)
