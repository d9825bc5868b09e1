-- `direct` meets its contract: each test is the ladder's, in its order. Assumes nothing.
use borrow.Author.Rules.{sfits_of}
use mathlib.Core.Path.{◌≡◌, sym, ◌∙◌, ap}
use lib.IntN.{ℤ, pos}
use mir.Syntax.{w32}
use mir.Val.{to_z, of_z}
use mir.Facts.{to_z-of_z}
use Prim.Native.Nat.{ℕ, ◌<◌}
use lib.Signed.{mag}
use Rattle.std.specs.Prelude.{Ok}
use Rattle.numbers.specs.Depth.{bits_of, depth_of, most}
use Rattle.numbers.specs.declared.depth.Depth.{Depth}
use Rattle.numbers.proofs.Look.{passed_on}
use Rattle.numbers.proofs.Agree.{size-yes, size-else, depth-yes, depth-else, depth-back}
use Rattle.signed.proofs.Bound.{back}
use Rattle.direct_calls.specs.Direct.{direct_answer}
use Rattle.direct_calls.proofs.Accepted.{size-most, long-all}
use Rattle.direct_calls.proofs.direct.direct.Goals as goal

pub returns-in_err-try_from : goal.returns-in_err-try_from
unfolding direct_answer
returns-in_err-try_from c = passed_on _ c.from_residual.ensures.1 ∙ size-else _ _ c.in_err-try_from.ensures

pub returns-in_err-depth : goal.returns-in_err-depth
unfolding direct_answer
returns-in_err-depth c =
    rw (size-yes c.args.b _ (sym c.in_ok-try_from.ensures))
    (passed_on _ c.from_residual-in_err-depth.ensures.1 ∙ depth-else _ _ c.in_err-depth.ensures)

pub returns-then-not-named : goal.returns-then-not-named
unfolding direct_answer
returns-then-not-named c =
    simp (
      size-yes c.args.b _ (sym c.in_ok-try_from.ensures),
      depth-yes c.args.d _ (sym c.in_ok-depth.ensures),
      c.if-not-named.true,
    )

pub returns-then-not-lists_long : goal.returns-then-not-lists_long
unfolding direct_answer
returns-then-not-lists_long c =
    simp (
      size-yes c.args.b _ (sym c.in_ok-try_from.ensures),
      depth-yes c.args.d _ (sym c.in_ok-depth.ensures),
      c.if-not-named.false,
      sym c.lists_long.ensures ∙ c.if-not-lists_long.true,
    )

pub lists_long-requires : goal.lists_long-requires
lists_long-requires c = size-most _ (size-yes c.args.b _ (sym c.in_ok-try_from.ensures))

pub entries_in_range-requires : goal.entries_in_range-requires
entries_in_range-requires c =
    let l = long-all _ _ _ _ (sym c.lists_long.ensures ∙ c.if-not-lists_long.false) in
    (size-most _ (size-yes c.args.b _ (sym c.in_ok-try_from.ensures)), l.0, l.1)

-- M of the depth that was found
max-is : (z : ℤ) (d : ℕ) (e : Depth) → mag z < 2147483648 → z ≡ pos (most (bits_of e)) → depth_of d ≡ Ok e → to_z w32 (of_z w32 z) ≡ pos (most d)
max-is z d e fits is found = back w32 {z = z} (sfits_of fits) ∙ is ∙ ap (λ n. pos (most n)) (depth-back d e found)

pub returns-then-not-entries_in_range : goal.returns-then-not-entries_in_range
unfolding direct_answer
returns-then-not-entries_in_range c =
    let m = max-is c.max.result c.args.d _ c.max.type_inv c.max.ensures (sym c.in_ok-depth.ensures) in
    let e = simp (m, to_z-of_z, c.ranges.corner) at c.entries_in_range.ensures in
    simp (
      size-yes c.args.b _ (sym c.in_ok-try_from.ensures),
      depth-yes c.args.d _ (sym c.in_ok-depth.ensures),
      c.if-not-named.false,
      sym c.lists_long.ensures ∙ c.if-not-lists_long.false,
      sym e ∙ c.if-not-entries_in_range.true,
    )

pub returns : goal.returns
unfolding direct_answer
returns c =
    let m = max-is c.max.result c.args.d _ c.max.type_inv c.max.ensures (sym c.in_ok-depth.ensures) in
    let e = simp (m, to_z-of_z, c.ranges.corner) at c.entries_in_range.ensures in
    simp (
      size-yes c.args.b _ (sym c.in_ok-try_from.ensures),
      depth-yes c.args.d _ (sym c.in_ok-depth.ensures),
      c.if-not-named.false,
      sym c.lists_long.ensures ∙ c.if-not-lists_long.false,
      sym e ∙ c.if-not-entries_in_range.false,
    )
