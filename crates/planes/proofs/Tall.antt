-- Rectangles of planes in the tall picture: their samples are there those of the planes, and so the test of a clash is exact. Assumes nothing.
use mathlib.Core.Path.{◌≡◌, refl, ap}
use mathlib.Core.Logic.Iff
use mathlib.Core.Logic.{◌↔◌, ◌⊎◌, inl, inr, ⊎_map}
use mathlib.Core.List.{List, [], ◌∷◌}
use Prim.Native.Nat.{ℕ, ◌+◌, ◌-◌, ◌*◌, ◌≤◌, ◌<◌}
use native.Mathlib.Omega.{arith}
use lib.Arith.{digits_lt}
use Rattle.reorder.specs.Test.{Decides}
use Rattle.reorder.specs.Rect.{In, InAny, AllWide, clash_b}
use Rattle.reorder.proofs.Rect.{same_row, same-col}
use Rattle.reorder.proofs.Cross.{clash-decides}
use Rattle.planes.specs.Three.{PlanePlace}
use Rattle.planes.specs.Rects.{PlaneRect, InPlane, InAnyPlane, AllWithin, tall, talls}

module _ (W H : ℕ) where
  -- where a sample stands in the tall picture
  abbrev pub tall_at : PlanePlace → ℕ
  tall_at q = q.plane * (H * W) + q.place

  -- it is one of the plane's
  abbrev Held : PlanePlace → Type 0
  Held q = q.place < H * W

  same_place : (q r : PlanePlace) → Held q → Held r → tall_at q ≡ tall_at r → q ≡ r
  same_place q r hq hr e =
      let k = same_row (H * W) q.plane q.place r.plane r.place hq hr e in
      let p = same-col (H * W) q.plane q.place r.plane r.place hq hr e in
      λ i. record { plane = k i; place = p i }

  held : (R : PlaneRect) (q : PlanePlace) → (R.rect.x + R.rect.w ≤ W) × (R.rect.y + R.rect.h ≤ H) → InPlane W R q → Held q
  held R q w i =
      let j = i.1 in
      omega (arith, j.place, digits_lt {q = j.row} {m = H} {r = j.col} {c = W} (omega (arith, w.1, j.bottom)) (omega (arith, w.0, j.right)))

  up : (R : PlaneRect) (q : PlanePlace) → InPlane W R q → In W (tall H R) (tall_at q)
  up R q (e, i) = record {
    row = R.plane * H + i.row;
    col = i.col;
    top = omega (arith, i.top);
    bottom = omega (arith, i.bottom);
    left = i.left;
    right = i.right;
    place = omega (arith, i.place, ap (λ k. k * (H * W)) e);
  }

  down : (R : PlaneRect) (p : ℕ) → In W (tall H R) p → (q : PlanePlace) × (p ≡ tall_at q) × InPlane W R q
  down R p i =
      let r : ℕ = i.row - R.plane * H in
      let e : i.row ≡ R.plane * H + r = omega (arith, i.top) in (
        record { plane = R.plane; place = r * W + i.col },
        omega (arith, i.place, ap (λ a. a * W) e),
        (refl, record { row = r; col = i.col; top = omega (arith, i.top); bottom = omega (arith, i.bottom); left = i.left; right = i.right; place = refl }),
      )

  -- of several
  pub wides : (Rs : List PlaneRect) → AllWithin W H Rs → AllWide W (talls H Rs)
  wides [] w = tt
  wides (R ∷ Rs) w = (w.0.0, wides Rs w.1)

  all_held : (Rs : List PlaneRect) → AllWithin W H Rs → (q : PlanePlace) → InAnyPlane W Rs q → Held q
  all_held [] w q i = absurd i
  all_held (R ∷ Rs) w q (inl i) = held R q w.0 i
  all_held (R ∷ Rs) w q (inr i) = all_held Rs w.1 q i

  ups : (Rs : List PlaneRect) (q : PlanePlace) → InAnyPlane W Rs q → InAny W (talls H Rs) (tall_at q)
  ups [] q i = i
  ups (R ∷ Rs) q (inl i) = inl (up R q i)
  ups (R ∷ Rs) q (inr i) = inr (ups Rs q i)

  downs : (Rs : List PlaneRect) (p : ℕ) → InAny W (talls H Rs) p → (q : PlanePlace) × (p ≡ tall_at q) × InAnyPlane W Rs q
  downs [] p i = absurd i
  downs (R ∷ Rs) p (inl i) = let d = down R p i in (d.0, d.1, inl d.2)
  downs (R ∷ Rs) p (inr i) = let d = downs Rs p i in (d.0, d.1, inr d.2)

  -- the sample that a place of the tall picture is
  back : (Rs : List PlaneRect) → AllWithin W H Rs → (q : PlanePlace) → Held q → InAny W (talls H Rs) (tall_at q) → InAnyPlane W Rs q
  back Rs w q h i = let d = downs Rs (tall_at q) i in rw (same_place q d.0 h (all_held Rs w d.0 d.2) d.1) d.2

  -- some of one list is in one of two others
  abbrev Share : List PlaneRect → List PlaneRect → List PlaneRect → Type 0
  Share a r w = (q : PlanePlace) × InAnyPlane W a q × (InAnyPlane W r q ⊎ InAnyPlane W w q)

  shares : (a r w : List PlaneRect) → AllWithin W H a → AllWithin W H r → AllWithin W H w
      → ((p : ℕ) × InAny W (talls H a) p × (InAny W (talls H r) p ⊎ InAny W (talls H w) p)) ↔ Share a r w
  shares a r w wa wr ww = (
    λ s.
        let d = downs a s.0 s.1 in
        let h = all_held a wa d.0 d.2 in
        (d.0, d.2, ⊎_map (λ i. back r wr d.0 h (rw (← d.1) i)) (λ i. back w ww d.0 h (rw (← d.1) i)) s.2),
    λ s. (tall_at s.0, ups a s.0 s.1, ⊎_map (ups r s.0) (ups w s.0) s.2),
  )

  -- the test of a clash by rectangles is exact: one writes a sample that the other reads or writes
  pub planes-decide : (ri wi rj wj : List PlaneRect) → AllWithin W H ri → AllWithin W H wi → AllWithin W H rj → AllWithin W H wj
      → Decides (clash_b (talls H ri) (talls H wi) (talls H rj) (talls H wj)) (Share wi rj wj ⊎ Share wj ri wi)
  planes-decide ri wi rj wj ari awi arj awj =
      let i = shares wi rj wj awi arj awj in
      let j = shares wj ri wi awj ari awi in
      Iff.trans
      (clash-decides W (talls H ri) (talls H wi) (talls H rj) (talls H wj) (wides ri ari) (wides wi awi) (wides rj arj) (wides wj awj))
      (⊎_map i.0 j.0, ⊎_map i.1 j.1)
