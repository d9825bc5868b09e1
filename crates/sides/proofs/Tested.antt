-- The samples behind the entries: the code's tests of them are the rule's, and where the rule is kept each can be read. Assumes nothing.
use mathlib.Core.Path.{◌≡◌, refl, sym, ◌∙◌, ap}
use mathlib.Core.Bool.{Bool, true, false, cond, ◌&&◌}
use mathlib.Core.List.{List}
use Prim.Native.Nat.{ℕ, ◌*◌, ◌≤◌, ◌<◌}
use native.Mathlib.Omega.{arith}
use lib.IntN.{ℤ, pos}
use lib.Ieee.{Float, nan}
use lib.ListN.{get_or}
use Rattle.numbers.specs.Depth.{is_depth, most}
use Rattle.signed.specs.Range.{inside}
use Rattle.signed.proofs.Range.{and_both, pos-inside}
use Rattle.edge_line.specs.Every.{every}
use Rattle.edge_line.proofs.Every.{every-at, every-same, every-flat}
use Rattle.samples.specs.Sample.{is_sample, Readable}
use Rattle.samples.proofs.Half.{depth-top}
use Rattle.block_spec.specs.declared.spec.IntraRefSpec.{IntraRefSpec}
use Rattle.block_spec.specs.Behind.{Behind, above_behind, left_behind, corner_behind}
use Rattle.block_spec.proofs.Behind.{neighbours, above-there, above-by-left, above-by-base, left_there, left-by-above, left-by-base, corner-by-above, corner-by-left}
use Rattle.sides.specs.declared.Spot.{Spot}
use Rattle.sides.specs.declared.Spot.TheVariants.{Sample, Number}
use Rattle.sides.specs.Spot.{spot_in_range, SpotReadable}
use Rattle.sides.specs.Side.{side_at, side_read, above_side, left_side}
use Rattle.sides.specs.Read.{behind_in_range, edge_read, all_read}
use Rattle.sides.proofs.Sides.{above_place, left-place}

pub most-inside : (D : ℕ) (z : ℤ) → is_depth D ≡ true → z ≡ pos (most D) → inside (pos 4095) z ≡ true
most-inside D z d e = ap (inside (pos 4095)) e ∙ pos-inside 4095 (most D) (depth-top D d).0

-- a test that is made twice
left-twice : (x c : Bool) → ((x && true) && c) ≡ ((x && c) && c)
left-twice true true = refl
left-twice true false = refl
left-twice false c = refl

above-twice : (x c : Bool) → ((true && x) && c) ≡ ((c && x) && c)
above-twice true true = refl
above-twice true false = refl
above-twice false true = refl
above-twice false false = refl

-- ---- the code's test: the lines of the neighbours that are there, and the corner
module _ (plane : List Float) (W : ℕ) (s : IntraRefSpec) where
  abbrev M : ℤ
  M = pos (most s.d)

  abbrev corner : Bool
  corner = behind_in_range (most s.d) W plane (corner_behind s)

  -- a sample at a place of the list
  is : ℕ → Bool
  is k = is_sample M (get_or plane k nan)

  above-is : s.have_above ≡ true → every (λ c. is_sample M (side_at plane (above_side W s) c)) (2 * s.b) ≡ edge_read plane W s (above_behind s)
  unfolding edge_read is
  above-is a = every-same _ _ (2 * s.b) (λ c h. rw (above-there s a c) (ap is (above_place W s c)))

  left_is : s.have_left ≡ true → every (λ c. is_sample M (side_at plane (left_side W s) c)) (2 * s.b) ≡ edge_read plane W s (left_behind s)
  unfolding edge_read is
  left_is l = every-same _ _ (2 * s.b) (λ c h. rw (left_there s l c) (ap is (left-place W s c)))

  -- one that is missing
  flat-is : (behind : ℕ → Behind) (t : Bool) → 1 ≤ s.b → ((c : ℕ) → behind_in_range (most s.d) W plane (behind c) ≡ t) → edge_read plane W s behind ≡ t
  unfolding edge_read
  flat-is behind t b e = every-same _ (λ c. t) (2 * s.b) (λ c h. e c) ∙ every-flat t (2 * s.b) (omega arith)

  abbrev above-all : Bool
  above-all = every (λ c. is_sample M (side_at plane (above_side W s) c)) (2 * s.b)

  abbrev left-all : Bool
  left-all = every (λ c. is_sample M (side_at plane (left_side W s) c)) (2 * s.b)

  abbrev by-sides : Bool → Bool → Bool
  by-sides above left = cond above above-all true && cond left left-all true && corner

  pub all-by-sides : 1 ≤ s.b → (side_read M plane (above_side W s) && side_read M plane (left_side W s) && corner) ≡ all_read plane W s
  unfolding all_read
  all-by-sides b =
      neighbours s.have_above s.have_left
      (λ a l. (λ j. by-sides (a j) (l j)) ∙ (λ j. above-is a j && left_is l j && corner))
      (λ a l.
      let missing = flat-is (left_behind s) corner b (λ c. ap (behind_in_range (most s.d) W plane) (left-by-above s l a c ∙ sym (corner-by-above s a l))) in
      (λ j. by-sides (a j) (l j)) ∙ left-twice above-all corner ∙ (λ j. above-is a j && sym missing j && corner))
      (λ a l.
      let missing = flat-is (above_behind s) corner b (λ c. ap (behind_in_range (most s.d) W plane) (above-by-left s a l c ∙ sym (corner-by-left s a l))) in
      (λ j. by-sides (a j) (l j)) ∙ above-twice left-all corner ∙ (λ j. sym missing j && left_is l j && corner))
      (λ a l.
      let above = flat-is (above_behind s) true b (λ c. ap (behind_in_range (most s.d) W plane) (above-by-base s a l c)) in
      let left = flat-is (left_behind s) true b (λ c. ap (behind_in_range (most s.d) W plane) (left-by-base s l a c)) in
      (λ j. by-sides (a j) (l j)) ∙ (λ j. sym above j && sym left j && corner))

-- ---- what the rule leaves to count on
module _ (plane : List Float) (W : ℕ) (s : IntraRefSpec) where
  edge-read : (behind : ℕ → Behind) → edge_read plane W s behind ≡ true → (c : ℕ) → c < 2 * s.b → behind_in_range (most s.d) W plane (behind c) ≡ true
  unfolding edge_read
  edge-read behind e = every-at (λ c. behind_in_range (most s.d) W plane (behind c)) (2 * s.b) e

  module _ (e : all_read plane W s ≡ true) where
    both : ((edge_read plane W s (above_behind s) && edge_read plane W s (left_behind s)) ≡ true) × (behind_in_range (most s.d) W plane (corner_behind s) ≡ true)
    unfolding all_read
    both = and_both (edge_read plane W s (above_behind s) && edge_read plane W s (left_behind s)) _ e

    pub above-read : (c : ℕ) → c < 2 * s.b → behind_in_range (most s.d) W plane (above_behind s c) ≡ true
    above-read = edge-read (above_behind s) (and_both _ (edge_read plane W s (left_behind s)) both.0).0

    pub left-read : (c : ℕ) → c < 2 * s.b → behind_in_range (most s.d) W plane (left_behind s c) ≡ true
    left-read = edge-read (left_behind s) (and_both (edge_read plane W s (above_behind s)) _ both.0).1

    pub corner-read : behind_in_range (most s.d) W plane (corner_behind s) ≡ true
    corner-read = both.1

    -- the samples of the neighbours that are there can be read
    module _ (d : is_depth s.d ≡ true) where
      pub above-readable : s.have_above ≡ true → (c : ℕ) → c < 2 * s.b → Readable (side_at plane (above_side W s) c)
      unfolding is
      above-readable a c h = record {
        depth = s.d;
        is = d;
        in-range =
            ap (is plane W s) (above_place W s c)
            ∙ sym (ap (behind_in_range (most s.d) W plane) (above-there s a c))
            ∙ above-read c h;
      }

      pub left-readable : s.have_left ≡ true → (c : ℕ) → c < 2 * s.b → Readable (side_at plane (left_side W s) c)
      unfolding is
      left-readable l c h = record {
        depth = s.d;
        is = d;
        in-range =
            ap (is plane W s) (left-place W s c)
            ∙ sym (ap (behind_in_range (most s.d) W plane) (left_there s l c))
            ∙ left-read c h;
      }

-- a sample in 0..M can be read
pub readable : (D : ℕ) (plane : List Float) (x : Spot) → is_depth D ≡ true → spot_in_range (pos (most D)) plane x ≡ true → SpotReadable plane x
readable D plane (Sample p) d e = record { depth = D; is = d; in-range = e }
readable D plane (Number z) d e = tt
