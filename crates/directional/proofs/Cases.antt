-- The choice by angle, case by case: what a test has shown picks the block. Assumes nothing.
use mathlib.Core.Bool.{Bool, true, false, cond, ◌&&◌, ◌||◌, true≢false, not}
use mathlib.Core.Path.{◌≡◌, sym, ◌∙◌, ap}
use mathlib.Core.List.{List}
use Prim.Native.Nat.{ℕ}
use lib.Dec.{eqb, ltb}
use lib.Ieee.{Float}
use lib.IntN.{ℤ, pos}
use lib.ListN.{get_or}
use Rattle.lists.specs.Block.{block}
use Rattle.setting.specs.declared.Setting.{Setting}
use Rattle.angled.specs.AtAngle.{z1_at, z2_at, z3_at}
use Rattle.directional.specs.Directional.{is_down, is_across, directional_at}

-- 90 is copied down, and 180 across, whatever is there
pub not-ninety : (s : Setting) → is_down s ≡ false → s.angle ≡ 90 → ⊥
unfolding is_down
not-ninety s h e = true≢false (sym (ap (λ a. eqb a 90 || (ltb a 90 && not s.flags.above)) e) ∙ h)

pub not-half : (s : Setting) → is_across s ≡ false → s.angle ≡ 180 → ⊥
unfolding is_across
not-half s h e = true≢false (sym (ap (λ a. eqb a 180 || (ltb 180 a && not s.flags.left)) e) ∙ h)

module _ (w h : ℕ) (M : ℤ) (s : Setting) (above left : List ℤ) (k : ℤ) (out : List Float) where
  abbrev zones : Bool → Bool → ℕ → ℕ → ℤ
  zones one two r c = cond one (z1_at w h M s above k r c) (cond two (z2_at w h M s above left k r c) (z3_at w h M s left k r c))

  abbrev all : Bool → Bool → Bool → Bool → List Float
  all a b one two = block w h (λ r c. cond a (get_or above c (pos 0)) (cond b (get_or left r (pos 0)) (zones one two r c))) out

  abbrev whole : List Float
  whole = block w h (directional_at w h M s above left k) out

  pub down : is_down s ≡ true → block w h (λ r c. get_or above c (pos 0)) out ≡ whole
  down a = λ j. all (sym a j) (is_across s) (ltb s.angle 90) (ltb s.angle 180)

  pub across : is_down s ≡ false → is_across s ≡ true → block w h (λ r c. get_or left r (pos 0)) out ≡ whole
  across a b = λ j. all (sym a j) (sym b j) (ltb s.angle 90) (ltb s.angle 180)

  pub in_one : is_down s ≡ false → is_across s ≡ false → ltb s.angle 90 ≡ true → block w h (z1_at w h M s above k) out ≡ whole
  in_one a b t = λ j. all (sym a j) (sym b j) (sym t j) (ltb s.angle 180)

  pub in_two : is_down s ≡ false → is_across s ≡ false → ltb s.angle 90 ≡ false → ltb s.angle 180 ≡ true
      → block w h (z2_at w h M s above left k) out ≡ whole
  in_two a b t u = λ j. all (sym a j) (sym b j) (sym t j) (sym u j)

  pub in_three : is_down s ≡ false → is_across s ≡ false → ltb s.angle 90 ≡ false → ltb s.angle 180 ≡ false
      → block w h (z3_at w h M s left k) out ≡ whole
  in_three a b t u = λ j. all (sym a j) (sym b j) (sym t j) (sym u j)
