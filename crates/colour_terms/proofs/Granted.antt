-- What the tests of a reference grant. Assumes nothing.
use mathlib.Core.Path.{◌≡◌}
use mathlib.Core.Bool.{true}
use Prim.Native.Nat.{ℕ, ◌*◌, ◌≤◌}
use lib.Dec.{leb}
use borrow.Author.Tests.{leb-true}
use Rattle.signed.proofs.Range.{and_both}
use Rattle.colour_terms.specs.Terms.{stride}
use Rattle.colour_terms.specs.Reference.{most_lines, is_sizes, is_held, is_reference, is_lines}

pub sizes-all : (width height : ℕ) → is_sizes width height ≡ true → (width ≤ most_lines) × (height ≤ most_lines)
unfolding is_sizes
sizes-all width height e =
    let p = and_both (leb width most_lines) (leb height most_lines) e in
    (leb-true _ _ p.0, leb-true _ _ p.1)

pub held_all : (height n : ℕ) → is_held height n ≡ true → height * stride ≤ n
unfolding is_held
held_all height n e = leb-true _ _ e

pub reference-all : (width height n : ℕ) → is_reference width height n ≡ true → (width ≤ most_lines) × (height ≤ most_lines) × (height * stride ≤ n)
unfolding is_reference
reference-all width height n e =
    let p = and_both (is_sizes width height) (is_held height n) e in
    let s = sizes-all width height p.0 in
    (s.0, s.1, held_all height n p.1)

pub lines-all : (above left : ℕ) → is_lines above left ≡ true → (above ≤ most_lines) × (left ≤ most_lines)
unfolding is_sizes is_lines
lines-all above left e = sizes-all above left e
