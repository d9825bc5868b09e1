-- The edges that a call builds lie in 0..M: the 2B entries of both and the corner, with B and D open. A sample's reading does, and so do base - 1,
-- base and base + 1 where base is in 1..M-1. Assumes nothing.
use mathlib.Core.Path.{◌≡◌, ◌∙◌, ap}
use mathlib.Core.Bool.{true, false, cond}
use mathlib.Core.List.{List}
use Prim.Native.Nat.{ℕ, ◌+◌, ◌-◌, ◌*◌, ◌≤◌, ◌<◌}
use native.Mathlib.Omega.{arith}
use lib.Dec.{leb}
use lib.IntN.{ℤ, pos, ◌-ℤ◌}
use lib.Ieee.{Float, nan}
use lib.ListN.{length, get_or}
use borrow.Author.Tests.{leb-true, lt-ltb}
use Rattle.numbers.specs.Depth.{is_depth, most}
use Rattle.signed.specs.Range.{inside, Edge}
use Rattle.signed.proofs.Parts.{same, sub}
use Rattle.signed.proofs.Range.{and_both, pos-inside}
use Rattle.lists.proofs.Fill.{filled_at}
use Rattle.edge_line.specs.Edge.{entry_of, edge_of}
use Rattle.samples.proofs.Reading.{reading-most}
use Rattle.block_spec.specs.declared.spec.IntraRefSpec.{IntraRefSpec}
use Rattle.block_spec.specs.Behind.{Behind, place, number, above_behind, left_behind, corner_behind}
use Rattle.sides.specs.Read.{behind_in_range, all_read}
use Rattle.block_spec.specs.Rules.{is_base}
use Rattle.sides.specs.Values.{value_of}
use Rattle.edges.specs.Refs.{Lists, refs_of}
use Rattle.block_spec.specs.Placed.{Placed}
use Rattle.block_spec.proofs.Behind.{neighbours, above-there, above-by-left, above-by-base, left_there, left-by-above, left-by-base}
use Rattle.block_spec.proofs.Behind.{corner-by-both, corner-by-above, corner-by-left, corner-by-base}
use Rattle.sides.proofs.Tested.{above-read, left-read, corner-read}

-- what stands behind an entry is in 0..M, if it is a number
abbrev NumberIn : ℕ → Behind → Type 0
NumberIn M (place r c) = Unit
NumberIn M (number z) = inside (pos M) z ≡ true

value_in : (D W : ℕ) (plane : List Float) → is_depth D ≡ true → (b : Behind) → behind_in_range (most D) W plane b ≡ true → NumberIn (most D) b
    → inside (pos (most D)) (value_of W plane b) ≡ true
value_in D W plane d (place r c) e h = pos-inside (most D) _ (reading-most D (get_or plane (r * W + c) nan) d e)
value_in D W plane d (number z) e h = h

one_less : (M b : ℕ) → 1 ≤ b → b ≤ M - 1 → inside (pos M) (pos b -ℤ pos 1) ≡ true
one_less M b h k =
    let e : pos b -ℤ pos 1 ≡ pos (b - 1) = same _ _ (omega (arith, sub (pos b) (pos 1))) in
    ap (inside (pos M)) e ∙ pos-inside M (b - 1) (omega arith)

module _ (s : IntraRefSpec) (e : is_base s ≡ true) where
  base-in : s.have_above ≡ false → s.have_left ≡ false → (1 ≤ s.base) × (s.base ≤ most s.d - 1)
  unfolding is_base
  base-in a l =
      let p = and_both (leb 1 s.base) (leb s.base (most s.d - 1)) (simp (a, l) at e) in
      (leb-true _ _ p.0, leb-true _ _ p.1)

  above-number : (c : ℕ) → NumberIn (most s.d) (above_behind s c)
  above-number c =
      neighbours s.have_above s.have_left
      (λ a l. rw (above-there s a c) tt)
      (λ a l. rw (above-there s a c) tt)
      (λ a l. rw (above-by-left s a l c) tt)
      (λ a l. let b = base-in a l in rw (above-by-base s a l c) (one_less (most s.d) s.base b.0 b.1))

  left-number : (c : ℕ) → NumberIn (most s.d) (left_behind s c)
  left-number c =
      neighbours s.have_above s.have_left
      (λ a l. rw (left_there s l c) tt)
      (λ a l. rw (left-by-above s l a c) tt)
      (λ a l. rw (left_there s l c) tt)
      (λ a l. let b = base-in a l in rw (left-by-base s l a c) (pos-inside (most s.d) (s.base + 1) (omega arith)))

  corner-number : NumberIn (most s.d) (corner_behind s)
  corner-number =
      neighbours s.have_above s.have_left
      (λ a l. rw (corner-by-both s a l) tt)
      (λ a l. rw (corner-by-above s a l) tt)
      (λ a l. rw (corner-by-left s a l) tt)
      (λ a l. let b = base-in a l in rw (corner-by-base s a l) (pos-inside (most s.d) s.base (omega arith)))

-- an entry of an edge output
entry_at : (B : ℕ) (value : ℕ → ℤ) (before : List ℤ) (i : ℕ) → B ≤ 64 → i < 2 * B → get_or (edge_of B value before) i (pos 0) ≡ value i
entry_at B value before i small h =
    filled_at 128 (entry_of B value) before i (pos 0) (omega arith) ∙ ap (λ t. cond t (value i) (pos 0)) (lt-ltb i (2 * B) h)

-- the 2B entries of both edges and the corner
pub record InRange (D B : ℕ) (built : Lists) : Type 0 where
  pub above : Edge (most D) (2 * B) built.above
  pub left : Edge (most D) (2 * B) built.left
  pub corner : inside (pos (most D)) (get_or built.corner 0 (pos 0)) ≡ true

pub built-in-range : {W : ℕ} {s : IntraRefSpec} (plane : List Float) (before : Lists) → Placed (length plane) W s → all_read plane W s ≡ true
    → InRange s.d s.b (refs_of plane W s before)
built-in-range {W} {s} plane before p e =
    let small = p.stands.side.1 in
    let in-range = value_in s.d W plane p.stands.is-depth in
    record {
      above = λ i h.
          ap (inside (pos (most s.d))) (entry_at s.b _ before.above i small h)
          ∙ in-range (above_behind s i) (above-read plane W s e i h) (above-number s p.stands.is_base i);
      left = λ i h.
          ap (inside (pos (most s.d))) (entry_at s.b _ before.left i small h)
          ∙ in-range (left_behind s i) (left-read plane W s e i h) (left-number s p.stands.is_base i);
      corner =
          ap (inside (pos (most s.d))) (filled_at 1 (λ i. value_of W plane (corner_behind s)) before.corner 0 (pos 0) (omega arith))
          ∙ in-range (corner_behind s) (corner-read plane W s e) (corner-number s p.stands.is_base);
    }
