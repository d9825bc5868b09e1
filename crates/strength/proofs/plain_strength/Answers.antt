-- `plain_strength` meets its contract: each answer is rewritten by the tests that led to it. Assumes nothing.
use borrow.Author.Tests.{le-leb, lt-leb}
use Rattle.strength.specs.Strength.{plain_strength}
use Rattle.strength.proofs.plain_strength.Goals as goal

pub returns-then-d-ge56 : goal.returns-then-d-ge56
unfolding plain_strength
returns-then-d-ge56 c = simp (le-leb _ _ c.if-d-ge56.true, le-leb _ _ c.if-wh-le8.true)

pub returns-else-d-ge56 : goal.returns-else-d-ge56
unfolding plain_strength
returns-else-d-ge56 c = simp (lt-leb _ _ c.if-d-ge56.false, le-leb _ _ c.if-wh-le8.true)

pub returns-then-d-ge40 : goal.returns-then-d-ge40
unfolding plain_strength
returns-then-d-ge40 c = simp (le-leb _ _ c.if-d-ge40.true, le-leb _ _ c.if-wh-le16.true, lt-leb _ _ c.if-wh-le8.false)

pub returns-else-d-ge40 : goal.returns-else-d-ge40
unfolding plain_strength
returns-else-d-ge40 c = simp (lt-leb _ _ c.if-d-ge40.false, le-leb _ _ c.if-wh-le16.true, lt-leb _ _ c.if-wh-le8.false)

pub returns-then-d-ge32 : goal.returns-then-d-ge32
unfolding plain_strength
returns-then-d-ge32 c =
    simp (
      le-leb _ _ c.if-d-ge32.true,
      le-leb _ _ c.if-wh-le24.true,
      lt-leb _ _ c.if-wh-le16.false,
      lt-leb _ _ c.if-wh-le8.false,
    )

pub returns-then-d-ge16 : goal.returns-then-d-ge16
unfolding plain_strength
returns-then-d-ge16 c =
    simp (
      le-leb _ _ c.if-d-ge16.true,
      lt-leb _ _ c.if-d-ge32.false,
      le-leb _ _ c.if-wh-le24.true,
      lt-leb _ _ c.if-wh-le16.false,
      lt-leb _ _ c.if-wh-le8.false,
    )

pub returns-then-d-ge8 : goal.returns-then-d-ge8
unfolding plain_strength
returns-then-d-ge8 c =
    simp (
      le-leb _ _ c.if-d-ge8.true,
      lt-leb _ _ c.if-d-ge16.false,
      lt-leb _ _ c.if-d-ge32.false,
      le-leb _ _ c.if-wh-le24.true,
      lt-leb _ _ c.if-wh-le16.false,
      lt-leb _ _ c.if-wh-le8.false,
    )

pub returns-else-d-ge8 : goal.returns-else-d-ge8
unfolding plain_strength
returns-else-d-ge8 c =
    simp (
      lt-leb _ _ c.if-d-ge8.false,
      lt-leb _ _ c.if-d-ge16.false,
      lt-leb _ _ c.if-d-ge32.false,
      le-leb _ _ c.if-wh-le24.true,
      lt-leb _ _ c.if-wh-le16.false,
      lt-leb _ _ c.if-wh-le8.false,
    )

pub returns-then-d-ge32-2 : goal.returns-then-d-ge32-2
unfolding plain_strength
returns-then-d-ge32-2 c =
    simp (
      le-leb _ _ c.if-d-ge32-2.true,
      le-leb _ _ c.if-wh-le32.true,
      lt-leb _ _ c.if-wh-le24.false,
      lt-leb _ _ c.if-wh-le16.false,
      lt-leb _ _ c.if-wh-le8.false,
    )

pub returns-then-d-ge4 : goal.returns-then-d-ge4
unfolding plain_strength
returns-then-d-ge4 c =
    simp (
      le-leb _ _ c.if-d-ge4.true,
      lt-leb _ _ c.if-d-ge32-2.false,
      le-leb _ _ c.if-wh-le32.true,
      lt-leb _ _ c.if-wh-le24.false,
      lt-leb _ _ c.if-wh-le16.false,
      lt-leb _ _ c.if-wh-le8.false,
    )

pub returns-then-d-ge1 : goal.returns-then-d-ge1
unfolding plain_strength
returns-then-d-ge1 c =
    simp (
      le-leb _ _ c.if-d-ge1.true,
      lt-leb _ _ c.if-d-ge4.false,
      lt-leb _ _ c.if-d-ge32-2.false,
      le-leb _ _ c.if-wh-le32.true,
      lt-leb _ _ c.if-wh-le24.false,
      lt-leb _ _ c.if-wh-le16.false,
      lt-leb _ _ c.if-wh-le8.false,
    )

pub returns-else-d-ge1 : goal.returns-else-d-ge1
unfolding plain_strength
returns-else-d-ge1 c =
    simp (
      lt-leb _ _ c.if-d-ge1.false,
      lt-leb _ _ c.if-d-ge4.false,
      lt-leb _ _ c.if-d-ge32-2.false,
      le-leb _ _ c.if-wh-le32.true,
      lt-leb _ _ c.if-wh-le24.false,
      lt-leb _ _ c.if-wh-le16.false,
      lt-leb _ _ c.if-wh-le8.false,
    )

pub returns-then-d-ge1-2 : goal.returns-then-d-ge1-2
unfolding plain_strength
returns-then-d-ge1-2 c =
    simp (
      le-leb _ _ c.if-d-ge1-2.true,
      lt-leb _ _ c.if-wh-le32.false,
      lt-leb _ _ c.if-wh-le24.false,
      lt-leb _ _ c.if-wh-le16.false,
      lt-leb _ _ c.if-wh-le8.false,
    )

pub returns-else-d-ge1-2 : goal.returns-else-d-ge1-2
unfolding plain_strength
returns-else-d-ge1-2 c =
    simp (
      lt-leb _ _ c.if-d-ge1-2.false,
      lt-leb _ _ c.if-wh-le32.false,
      lt-leb _ _ c.if-wh-le24.false,
      lt-leb _ _ c.if-wh-le16.false,
      lt-leb _ _ c.if-wh-le8.false,
    )
