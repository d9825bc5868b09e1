-- The lists of bounds: what is noted in a row, what stays in the others, and that rectangles that meet overlap. Assumes nothing.
use mathlib.Core.Path.{◌≡◌, refl, ◌∙◌}
use mathlib.Core.Logic.{◌≢◌, ◌⊎◌, inl, inr}
use mathlib.Core.Bool.{Bool, true, false, ◌&&◌, ◌||◌, true≢false}
use mathlib.Core.List.{List}
use Prim.Native.Nat.{ℕ, zero, suc, ◌+◌, ◌≤◌, ◌<◌, min, max}
use native.Mathlib.Decide.{ℕ_discrete}
use native.Mathlib.Omega.{arith}
use lib.Dec.{ltb}
use lib.IntN.{ℤ, pos}
use lib.ListN.{length, get_or, set, length-set}
use lib.Seq.{get_or-set_same, get_or-set_other}
use borrow.Author.Tests.{ltb-true, lt-ltb, le-ltb}
use Rattle.signed.proofs.Range.{and_both}
use Rattle.reorder.specs.Rect.{Rect, meet_b}
use Rattle.order.specs.Sides.{sides_of, bounds_at, overlap, met, any_met, noted}
use Rattle.order.specs.declared.bound_lists.Sides.{Sides}

pub neither : (a b : Bool) → (a || b) ≡ false → (a ≡ false) × (b ≡ false)
neither true b e = absurd (true≢false e)
neither false b e = (refl, e)

pub either : (a b : Bool) → (a || b) ≡ true → (a ≡ true) ⊎ (b ≡ true)
either true b e = inl refl
either false b e = inr e

-- ---- what is noted

module _ (lists : List ℤ) (j : ℕ) (s : Sides) where
  pub length-noted : length (noted lists j s) ≡ length lists
  unfolding noted
  length-noted = simp length-set

  -- another entry stays
  other : (p : ℕ) → p ≢ j → p ≢ 1024 + j → p ≢ 2048 + j → p ≢ 3072 + j → get_or (noted lists j s) p (pos 0) ≡ get_or lists p (pos 0)
  unfolding noted
  other p a b c d =
      let l1 = set lists j s.x0 in
      let l2 = set l1 (1024 + j) s.x1 in
      let l3 = set l2 (2048 + j) s.y0 in
      get_or-set_other l3 (3072 + j) p s.y1 (pos 0) d ∙ get_or-set_other l2 (2048 + j) p s.y0 (pos 0) c
      ∙ get_or-set_other l1 (1024 + j) p s.x1 (pos 0) b ∙ get_or-set_other lists j p s.x0 (pos 0) a

  -- and so another row
  pub noted_other : (k : ℕ) → k ≢ j → j < 1024 → k < 1024 → bounds_at (noted lists j s) k ≡ bounds_at lists k
  noted_other k ne l m =
      let e0 = other k ne (omega arith) (omega arith) (omega arith) in
      let e1 = other (1024 + k) (omega arith) (omega arith) (omega arith) (omega arith) in
      let e2 = other (2048 + k) (omega arith) (omega arith) (omega arith) (omega arith) in
      let e3 = other (3072 + k) (omega arith) (omega arith) (omega arith) (omega arith) in
      λ i. record { x0 = e0 i; x1 = e1 i; y0 = e2 i; y1 = e3 i }

  pub noted-at : length lists ≡ 4096 → j < 1024 → bounds_at (noted lists j s) j ≡ s
  unfolding noted
  noted-at long l =
      let l1 = set lists j s.x0 in
      let l2 = set l1 (1024 + j) s.x1 in
      let l3 = set l2 (2048 + j) s.y0 in
      let long1 : length l1 ≡ 4096 = length-set lists j s.x0 ∙ long in
      let long2 : length l2 ≡ 4096 = length-set l1 (1024 + j) s.x1 ∙ long1 in
      let long3 : length l3 ≡ 4096 = length-set l2 (2048 + j) s.y0 ∙ long2 in
      let e0 = get_or-set_other l3 (3072 + j) j s.y1 (pos 0) (omega arith) ∙ get_or-set_other l2 (2048 + j) j s.y0 (pos 0) (omega arith)
      ∙ get_or-set_other l1 (1024 + j) j s.x1 (pos 0) (omega arith) ∙ get_or-set_same lists j s.x0 (pos 0) (omega arith) in
      let e1 = get_or-set_other l3 (3072 + j) (1024 + j) s.y1 (pos 0) (omega arith) ∙ get_or-set_other l2 (2048 + j) (1024 + j) s.y0 (pos 0) (omega arith)
      ∙ get_or-set_same l1 (1024 + j) s.x1 (pos 0) (omega arith) in
      let e2 = get_or-set_other l3 (3072 + j) (2048 + j) s.y1 (pos 0) (omega arith) ∙ get_or-set_same l2 (2048 + j) s.y0 (pos 0) (omega arith) in
      let e3 = get_or-set_same l3 (3072 + j) s.y1 (pos 0) (omega arith) in
      λ i. record { x0 = e0 i; x1 = e1 i; y0 = e2 i; y1 = e3 i }

-- ---- rectangles

pub overlap-of-meet : (A R : Rect) → meet_b A R ≡ true → overlap (sides_of R) (sides_of A) ≡ true
unfolding meet_b overlap
overlap-of-meet A R e =
    let t = and_both _ _ e in
    let c = ltb-true (max A.x R.x) (min (A.x + A.w) (R.x + R.w)) t.0 in
    let r = ltb-true (max A.y R.y) (min (A.y + A.h) (R.y + R.h)) t.1 in
    rw (
      lt-ltb R.x (A.x + A.w) (omega arith),
      lt-ltb A.x (R.x + R.w) (omega arith),
      lt-ltb R.y (A.y + A.h) (omega arith),
      lt-ltb A.y (R.y + R.h) (omega arith),
    )

stop : (a b c d : Bool) → b ≡ false → (a && b && c && d) ≡ false
stop true b c d e = rw e
stop false b c d e = refl

-- a row that is not noted overlaps nothing
pub overlap-none : (A : Rect) → overlap (sides_of (record { x = 0; y = 0; w = 0; h = 0 })) (sides_of A) ≡ false
unfolding overlap
overlap-none A = stop (ltb 0 (A.x + A.w)) (ltb A.x 0) (ltb 0 (A.y + A.h)) (ltb A.y 0) (le-ltb A.x 0 (omega arith))

-- where no row of a part overlaps, none of its rows does
pub any_none : (lists : List ℤ) (s : Sides) (from n : ℕ) → any_met lists s from n ≡ false → (j : ℕ) → from ≤ j → j < from + n → met lists j s ≡ false
unfolding any_met
any_none lists s from zero e j l h = absurd (omega arith)
any_none lists s from (suc n) e j l h =
    let t = neither (any_met lists s from n) (met lists (from + n) s) e in
    elim (ℕ_discrete j (from + n)) [ yes q ↦ rw q t.1 | no nq ↦ any_none lists s from n t.0 j l (omega arith) ]
