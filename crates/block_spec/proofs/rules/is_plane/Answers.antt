-- `is_plane` meets its contract; sides in range have a product that fits. Assumes nothing.
use borrow.Author.Tests.{le-leb, lt-leb}
use native.Mathlib.Omega.{arith}
use native.Mathlib.Nat.{mul-le-mul}
use Rattle.block_spec.specs.Rules.{is_plane}
use Rattle.block_spec.proofs.rules.is_plane.Goals as goal

pub returns-then-w-lt-LEAST : goal.returns-then-w-lt-LEAST
unfolding is_plane
returns-then-w-lt-LEAST c = simp (lt-leb _ _ c.if-w-lt-LEAST.true)

pub returns-then-w-gt-MOST : goal.returns-then-w-gt-MOST
unfolding is_plane
returns-then-w-gt-MOST c = simp (le-leb _ _ c.if-w-lt-LEAST.false, lt-leb _ _ c.if-w-gt-MOST.true)

pub returns-then-h-lt-LEAST : goal.returns-then-h-lt-LEAST
unfolding is_plane
returns-then-h-lt-LEAST c = simp (le-leb _ _ c.if-w-lt-LEAST.false, le-leb _ _ c.if-w-gt-MOST.false, lt-leb _ _ c.if-h-lt-LEAST.true)

pub returns-then-h-gt-MOST : goal.returns-then-h-gt-MOST
unfolding is_plane
returns-then-h-gt-MOST c =
    let e = c.before in
    simp (
      le-leb _ _ e.if-w-lt-LEAST.false,
      le-leb _ _ e.if-w-gt-MOST.false,
      le-leb _ _ e.if-h-lt-LEAST.false,
      lt-leb _ _ c.if-h-gt-MOST.true,
    )

pub overflow_mul-result : goal.overflow_mul-result
overflow_mul-result c = omega (arith, mul-le-mul c.if-w-gt-MOST.false c.if-h-gt-MOST.false)

pub returns : goal.returns
unfolding is_plane
returns c =
    let e = c.before in
    simp (
      le-leb _ _ e.if-w-lt-LEAST.false,
      le-leb _ _ e.if-w-gt-MOST.false,
      le-leb _ _ e.if-h-lt-LEAST.false,
      le-leb _ _ c.if-h-gt-MOST.false,
    )
