-- What the kept rules give, and where samples lie then: each place up to the block's first is in the plane. Assumes nothing.
use mathlib.Core.Path.{◌≡◌, sym, ◌∙◌, ap}
use mathlib.Core.Bool.{Bool, true, not, ◌&&◌, ◌||◌}
use Prim.Native.Nat.{ℕ, ◌+◌, ◌*◌, ◌≤◌, ◌<◌, min}
use native.Mathlib.Nat.{mul_comm, mul-le-mul}
use native.Mathlib.Omega.{arith}
use lib.Arith.{digits_lt}
use lib.Dec.{leb, eqb}
use borrow.Author.Tests.{leb-true, eqb-true}
use Rattle.numbers.specs.Size.{is_size}
use Rattle.numbers.proofs.Agree.{size-all}
use Rattle.signed.proofs.Range.{and_both}
use Rattle.refusals.proofs.Ladder.{AllKept}
use Rattle.block_spec.specs.declared.spec.IntraRefSpec.{IntraRefSpec}
use Rattle.block_spec.specs.Rules.{is_plane_side, is_plane, is_inside, is_reach, has_neighbours, size_rules, place_rules}
use Rattle.block_spec.specs.Placed.{Standing, Placed}

pub size_in : (B : ℕ) → is_size B ≡ true → (1 ≤ B) × (B ≤ 64)
size_in B e = size-all (λ x. (1 ≤ x) × (x ≤ 64)) B (omega arith) e

reach : (there : Bool) (across available start B more end : ℕ) → is_reach there across available start B more end ≡ true → there ≡ true
    → (1 ≤ across) × (1 ≤ available) × (start + B + min more B ≤ end)
unfolding is_reach
reach there across available start B more end e t =
    let k : (leb 1 across && leb 1 available && leb (start + B + min more B) end) ≡ true =
    sym (ap (λ x. not x || (leb 1 across && leb 1 available && leb (start + B + min more B) end)) t) ∙ e in
    let p = and_both (leb 1 across && leb 1 available) (leb (start + B + min more B) end) k in
    let q = and_both (leb 1 across) (leb 1 available) p.0 in
    (leb-true _ _ q.0, leb-true _ _ q.1, leb-true _ _ p.1)

-- 1, 2, 4, 5 and 6 are kept
pub standing : (W H : ℕ) (s : IntraRefSpec) → AllKept (size_rules s) → AllKept (place_rules W H s) → Standing W H s
unfolding is_inside has_neighbours
standing W H s sizes places =
    let i = and_both (leb (s.x + s.b) W) (leb (s.y + s.b) H) places.0 in
    let r = and_both (is_reach s.have_above s.y s.available_above s.x s.b s.top_right W) _ places.1.0 in
    record {
      is-size = sizes.0;
      is-depth = sizes.1.0;
      side = size_in s.b sizes.0;
      columns = leb-true _ _ i.0;
      rows = leb-true _ _ i.1;
      above = reach _ _ _ _ _ _ _ r.0;
      left = reach _ _ _ _ _ _ _ r.1;
      is_base = places.1.1.0;
    }

side : (n : ℕ) → is_plane_side n ≡ true → n ≤ 4096
side n e = leb-true _ _ (and_both (leb 4 n) (leb n 4096) e).1

-- 20 is kept
pub plane-is : (W H n : ℕ) → is_plane W H n ≡ true → (W ≤ 4096) × (H ≤ 4096) × (n ≡ W * H)
unfolding is_plane
plane-is W H n e =
    let p = and_both (is_plane_side W && is_plane_side H) (eqb n (W * H)) e in
    let q = and_both (is_plane_side W) (is_plane_side H) p.0 in
    (side W q.0, side H q.1, eqb-true _ _ p.1)

pub placed : (n W H : ℕ) (s : IntraRefSpec) → is_plane W H n ≡ true → Standing W H s → Placed n W s
placed n W H s plane stands =
    let p = plane-is W H n plane in
    record { H = H; sides = (p.0, p.1); whole = p.2; stands = stands }

module _ {n W : ℕ} {s : IntraRefSpec} (p : Placed n W s) where
  pub small : n ≤ 16777216
  small = omega (arith, p.whole, mul-le-mul p.sides.0 p.sides.1)

  -- a row and a column of the plane
  pub lies : (r c : ℕ) → r < p.H → c < W → r * W + c < n
  lies r c hr hc = omega (arith, digits_lt hr hc, p.whole, mul_comm W p.H)

  -- the block's first place, and those before it
  pub up_to : (r c : ℕ) → r ≤ s.y → c ≤ s.x → r * W + c < n
  up_to r c hr hc = lies r c (omega (arith, p.stands.rows, p.stands.side)) (omega (arith, p.stands.columns, p.stands.side))

  pub first_fits : s.y * W + s.x ≤ 16777216
  first_fits = omega (arith, up_to s.y s.x (omega arith) (omega arith), small)
