-- One rectangle against the runs of a job, as the code tries them: a run that is not there meets nothing. Assumes nothing.
use mathlib.Core.Path.{◌≡◌, refl, sym, ◌∙◌}
use mathlib.Core.Bool.{Bool, true, false, ◌&&◌, ◌||◌}
use mathlib.Core.List.{[], ◌∷◌}
use Prim.Native.Nat.{ℕ, ◌+◌, ◌-◌, min, max}
use native.Mathlib.Omega.{arith}
use borrow.Author.Tests.{le-ltb}
use Rattle.block_spec.specs.declared.spec.IntraRefSpec.{IntraRefSpec}
use Rattle.reorder.specs.Rect.{Rect, meet_b, meet_any_b, cross_b}
use Rattle.reorder.proofs.Cross.{cross-one}
use Rattle.touches.specs.Rects.{rect_if, runs_of}
use Rattle.touches.specs.Touches.{block_at}

meet-none : (A : Rect) → meet_b A (record { x = 0; y = 0; w = 0; h = 0 }) ≡ false
unfolding meet_b
meet-none A = rw (le-ltb (max A.x 0) (min (A.x + A.w) 0) (omega arith))

pub and_no : (a b : Bool) → a ≡ false → (a && b) ≡ false
and_no a b e = rw e

pub no-and : (a b : Bool) → b ≡ false → (a && b) ≡ false
no-and true b e = e
no-and false b e = refl

module _ (A : Rect) (b : Bool) where
  pub meet-off : b ≡ false → (x y w h : ℕ) → false ≡ meet_b A (rect_if b x y w h)
  meet-off e x y w h = rw e (sym (meet-none A))

  pub meet-on : b ≡ true → (x y w h w' h' : ℕ) → w ≡ w' → h ≡ h' → (m : Bool) → m ≡ meet_b A (record { x = x; y = y; w = w; h = h })
      → m ≡ meet_b A (rect_if b x y w' h')
  meet-on e x y w h w' h' p q m r = rw e (r ∙ rw (p, q))

  pub both-off : b ≡ false → (x y w h x' y' w' h' : ℕ) → false ≡ (meet_b A (rect_if b x y w h) || meet_b A (rect_if b x' y' w' h'))
  both-off e x y w h x' y' w' h' = rw (← (meet-off e x y w h), ← (meet-off e x' y' w' h'))

five : (a b c d e : Bool) → ((a || (b || (c || (d || (e || false))))) || false) ≡ (((a || b) || (c || d)) || e)
five true b c d e = refl
five false true c d e = refl
five false false true d e = refl
five false false false true e = refl
five false false false false true = refl
five false false false false false = refl

-- two runs above, two at the left, and the corner
cross-five : (A R S T U O : Rect)
    → cross_b (A ∷ []) (R ∷ S ∷ T ∷ U ∷ O ∷ []) ≡ (((meet_b A R || meet_b A S) || (meet_b A T || meet_b A U)) || meet_b A O)
unfolding cross_b meet_any_b
cross-five A R S T U O = five (meet_b A R) (meet_b A S) (meet_b A T) (meet_b A U) (meet_b A O)

pub hits-is : (A B : Rect) (s t : IntraRefSpec) → A ≡ block_at s → B ≡ block_at t → (above left corner block : Bool)
    → above ≡ (meet_b A (rect_if t.have_above t.x (t.y - 1) (min t.b t.available_above) 1)
    || meet_b A (rect_if t.have_above (t.x + t.b) (t.y - 1) (min t.top_right t.b) 1))
    → left ≡ (meet_b A (rect_if t.have_left (t.x - 1) t.y 1 (min t.b t.available_left))
    || meet_b A (rect_if t.have_left (t.x - 1) (t.y + t.b) 1 (min t.bottom_left t.b)))
    → corner ≡ meet_b A (rect_if (t.have_above && t.have_left) (t.x - 1) (t.y - 1) 1 1)
    → block ≡ meet_b A B
    → (((above || left) || corner) || block) ≡ (cross_b (block_at s ∷ []) (runs_of true t) || cross_b (block_at s ∷ []) (block_at t ∷ []))
hits-is A B s t e f above left corner block p q u v = rw (← e, ← f, cross-five, cross-one) (λ j. ((p j || q j) || u j) || v j)
