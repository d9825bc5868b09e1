-- Three planes are their samples; what is left of them when one becomes another. Assumes nothing.
use mathlib.Core.Path.{◌≡◌, refl, sym, ◌∙◌}
use mathlib.Core.Logic.{◌≢◌}
use mathlib.Core.Bool.{Bool, true, false, cond}
use mathlib.Core.List.{List}
use Prim.Native.Nat.{ℕ, ◌≤◌}
use native.Mathlib.Decide.{ℕ_discrete}
use native.Mathlib.Omega.{arith}
use lib.Dec.{eqb}
use lib.ListN.{length}
use lib.Seq.{ext_get_or}
use borrow.Author.Tests.{ne_eqb}
use Rattle.planes.specs.Three.{Three, PlanePlace, plane_in, with_plane, look_in, Sized}

-- the three numbers that planes have
pub by-plane : (P : ℕ → Type 0) (k : ℕ) → k ≤ 2 → P 0 → P 1 → P 2 → P k
by-plane P k h a b c =
    elim (ℕ_discrete k 0) [
      | yes e ↦ rw e a
      | no e0 ↦ elim (ℕ_discrete k 1) [ yes e ↦ rw e b | no e1 ↦ let e : k ≡ 2 = omega arith in rw e c ]
    ]

module _ {A : Type 0} where
  pub plane-0 : (t : Three A) → plane_in t 0 ≡ t.p0
  unfolding plane_in
  plane-0 t = refl

  pub plane-1 : (t : Three A) → plane_in t 1 ≡ t.p1
  unfolding plane_in
  plane-1 t = refl

  pub plane-2 : (t : Three A) → plane_in t 2 ≡ t.p2
  unfolding plane_in
  plane-2 t = refl

  -- by its samples
  pub three-ext : (z : A) (n : ℕ) (s t : Three A) → Sized n s → Sized n t → ((q : PlanePlace) → look_in z s q ≡ look_in z t q) → s ≡ t
  unfolding plane_in
  three-ext z n s t f g e =
      let e0 = ext_get_or z s.p0 t.p0 (f.l0 ∙ sym g.l0) (λ i h. e (record { plane = 0; place = i })) in
      let e1 = ext_get_or z s.p1 t.p1 (f.l1 ∙ sym g.l1) (λ i h. e (record { plane = 1; place = i })) in
      let e2 = ext_get_or z s.p2 t.p2 (f.l2 ∙ sym g.l2) (λ i h. e (record { plane = 2; place = i })) in
      λ i. record { p0 = e0 i; p1 = e1 i; p2 = e2 i }

  pub length-in : (n : ℕ) (t : Three A) → Sized n t → (k : ℕ) → k ≤ 2 → length (plane_in t k) ≡ n
  unfolding plane_in
  length-in n t f k h = by-plane (λ k. length (plane_in t k) ≡ n) k h f.l0 f.l1 f.l2

  module _ (t : Three A) (k : ℕ) (s : List A) where
    pub with-same : k ≤ 2 → plane_in (with_plane t k s) k ≡ s
    unfolding plane_in with_plane
    with-same h = by-plane (λ k. plane_in (with_plane t k s) k ≡ s) k h refl refl refl

    pub with-other : (j : ℕ) → j ≢ k → plane_in (with_plane t k s) j ≡ plane_in t j
    unfolding plane_in with_plane
    with-other j n =
        elim (ℕ_discrete j 0) [
          | yes e ↦ rw (e, ne_eqb k 0 (λ x. n (e ∙ sym x)))
          | no e0 ↦ elim (ℕ_discrete j 1) [
            | yes e ↦ rw (e, ne_eqb k 1 (λ x. n (e ∙ sym x)))
            | no e1 ↦ elim (ℕ_discrete j 2) [
              | yes e ↦ rw (e, ne_eqb k 2 (λ x. n (e ∙ sym x)))
              | no e2 ↦ rw (ne_eqb j 0 e0, ne_eqb j 1 e1, ne_eqb j 2 e2)
            ]
          ]
        ]

    pub sized-with : (n : ℕ) → Sized n t → length s ≡ n → Sized n (with_plane t k s)
    unfolding with_plane
    sized-with n f l = record { l0 = pick (eqb k 0) t.p0 f.l0; l1 = pick (eqb k 1) t.p1 f.l1; l2 = pick (eqb k 2) t.p2 f.l2 }
      where
        pick : (b : Bool) (p : List A) → length p ≡ n → length (cond b s p) ≡ n
        pick true p e = l
        pick false p e = e
