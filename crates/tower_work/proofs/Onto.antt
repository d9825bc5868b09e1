-- One plane of three becomes another: what a function leaves that works on plane 0, 1 or 2 by itself, and a plane that stays. Assumes nothing.
use mathlib.Core.Path.{◌≡◌, refl, ◌∙◌, ap}
use mathlib.Core.Bool.{Bool, true, false, cond}
use mathlib.Core.List.{List}
use Prim.Native.Nat.{ℕ, ◌≤◌}
use lib.Ieee.{Float}
use Rattle.numbers.specs.Answer.{is_done, Answer}
use Rattle.refusals.specs.Promise.{lent, Promise}
use Rattle.planes.specs.Three.{Three, plane_in, with_plane}
use Rattle.planes.proofs.Three.{by-plane}
use Rattle.tower_work.specs.Granted.{three}

-- what is promised of one plane, of plane k of three
abbrev pub Onto : (List Float → Answer) → (List Float → List Float) → ℕ → Three Float → Three Float → Answer → Type 0
Onto a f k t t' r = Promise (a (plane_in t k)) (with_plane t k (f (plane_in t k))) r t'

module _ (p0 p1 p2 : List Float) (k : ℕ) (a : List Float → Answer) (f : List Float → List Float) (after : List Float) (r : Answer) where
  pub onto-0 : k ≡ 0 → Promise (a p0) (f p0) r after → Onto a f k (three p0 p1 p2) (three after p1 p2) r
  unfolding plane_in with_plane
  onto-0 e d = rw e (record { answers = d.answers; holds = λ i. record { p0 = d.holds i; p1 = p1; p2 = p2 } })

  pub onto-1 : k ≡ 1 → Promise (a p1) (f p1) r after → Onto a f k (three p0 p1 p2) (three p0 after p2) r
  unfolding plane_in with_plane
  onto-1 e d = rw e (record { answers = d.answers; holds = λ i. record { p0 = p0; p1 = d.holds i; p2 = p2 } })

  pub onto-2 : k ≡ 2 → Promise (a p2) (f p2) r after → Onto a f k (three p0 p1 p2) (three p0 p1 after) r
  unfolding plane_in with_plane
  onto-2 e d = rw e (record { answers = d.answers; holds = λ i. record { p0 = p0; p1 = p1; p2 = d.holds i } })

-- a plane that becomes itself
pub with-own : (t : Three Float) (k : ℕ) → k ≤ 2 → with_plane t k (plane_in t k) ≡ t
unfolding plane_in with_plane
with-own t k h = by-plane (λ k. with_plane t k (plane_in t k) ≡ t) k h refl refl refl

-- where a refused job leaves its plane, all three stay
pub lent-with : (a : Answer) (t : Three Float) (k : ℕ) → k ≤ 2 → (own : List Float) → (is_done a ≡ false → own ≡ plane_in t k)
    → with_plane t k own ≡ lent a (with_plane t k own) t
lent-with a t k h own f = go (is_done a) refl
  where
    go : (b : Bool) → is_done a ≡ b → with_plane t k own ≡ cond b (with_plane t k own) t
    go true e = refl
    go false e = ap (with_plane t k) (f e) ∙ with-own t k h
