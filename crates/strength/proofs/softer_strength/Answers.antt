-- `softer_strength` meets its contract: each answer is rewritten by the tests that led to it. Assumes nothing.
use native.Mathlib.Omega.{arith}
use borrow.Author.Tests.{le-leb, lt-leb}
use Rattle.strength.specs.Strength.{softer_strength}
use Rattle.strength.proofs.softer_strength.Goals as goal

pub returns-then-d-ge64 : goal.returns-then-d-ge64
unfolding softer_strength
returns-then-d-ge64 c = simp (le-leb _ _ c.if-d-ge64.true, le-leb _ _ c.if-wh-le8.true)

pub returns-then-d-ge40 : goal.returns-then-d-ge40
unfolding softer_strength
returns-then-d-ge40 c =
    simp (
      le-leb 40 c.args.d (omega arith),
      lt-leb _ _ c.if-d-ge64.false,
      le-leb _ _ c.if-wh-le8.true,
    )

pub returns-else-d-ge40 : goal.returns-else-d-ge40
unfolding softer_strength
returns-else-d-ge40 c =
    simp (
      lt-leb 40 c.args.d (omega arith),
      lt-leb _ _ c.if-d-ge64.false,
      le-leb _ _ c.if-wh-le8.true,
    )

pub returns-then-d-ge48 : goal.returns-then-d-ge48
unfolding softer_strength
returns-then-d-ge48 c = simp (le-leb _ _ c.if-d-ge48.true, le-leb _ _ c.if-wh-le16.true, lt-leb _ _ c.if-wh-le8.false)

pub returns-then-d-ge20 : goal.returns-then-d-ge20
unfolding softer_strength
returns-then-d-ge20 c =
    simp (
      le-leb _ _ c.if-d-ge20.true,
      lt-leb _ _ c.if-d-ge48.false,
      le-leb _ _ c.if-wh-le16.true,
      lt-leb _ _ c.if-wh-le8.false,
    )

pub returns-else-d-ge20 : goal.returns-else-d-ge20
unfolding softer_strength
returns-else-d-ge20 c =
    simp (
      lt-leb _ _ c.if-d-ge20.false,
      lt-leb _ _ c.if-d-ge48.false,
      le-leb _ _ c.if-wh-le16.true,
      lt-leb _ _ c.if-wh-le8.false,
    )

pub returns-then-d-ge4 : goal.returns-then-d-ge4
unfolding softer_strength
returns-then-d-ge4 c =
    simp (
      le-leb _ _ c.if-d-ge4.true,
      le-leb _ _ c.if-wh-le24.true,
      lt-leb _ _ c.if-wh-le16.false,
      lt-leb _ _ c.if-wh-le8.false,
    )

pub returns-else-d-ge4 : goal.returns-else-d-ge4
unfolding softer_strength
returns-else-d-ge4 c =
    simp (
      lt-leb _ _ c.if-d-ge4.false,
      le-leb _ _ c.if-wh-le24.true,
      lt-leb _ _ c.if-wh-le16.false,
      lt-leb _ _ c.if-wh-le8.false,
    )

pub returns-then-d-ge1 : goal.returns-then-d-ge1
unfolding softer_strength
returns-then-d-ge1 c =
    simp (
      le-leb _ _ c.if-d-ge1.true,
      lt-leb _ _ c.if-wh-le24.false,
      lt-leb _ _ c.if-wh-le16.false,
      lt-leb _ _ c.if-wh-le8.false,
    )

pub returns-else-d-ge1 : goal.returns-else-d-ge1
unfolding softer_strength
returns-else-d-ge1 c =
    simp (
      lt-leb _ _ c.if-d-ge1.false,
      lt-leb _ _ c.if-wh-le24.false,
      lt-leb _ _ c.if-wh-le16.false,
      lt-leb _ _ c.if-wh-le8.false,
    )
