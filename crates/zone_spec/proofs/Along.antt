-- The zones' definitions over the code's lists: an edge with its ends repeated holds what a zone reads, also past its end. Assumes nothing.
use mathlib.Core.Bool.{Bool, true, false, cond}
use mathlib.Core.Path.{◌≡◌, refl, sym, ◌∙◌, ap}
use mathlib.Core.List.{List}
use Prim.Native.Nat.{ℕ, ◌+◌, ◌-◌, ◌*◌, ◌/◌, ◌≤◌, ◌<◌}
use native.Mathlib.Omega.{arith}
use lib.Dec.{leb, ltb}
use lib.IntN.{ℤ, pos, nat_abs}
use lib.ListN.{get_or}
use borrow.Author.Tests.{ltb-true}
use Rattle.signed.specs.Range.{inside}
use Rattle.signed.proofs.Range.{inside-pos}
use Rattle.taps.specs.Interp.{between}
use Rattle.taps.proofs.Laws.{between-move}
use Rattle.taps.proofs.Flat.{between-flat}
use Rattle.edge_filter.specs.Filter.{padded}
use Rattle.zone_spec.specs.Zones.{sample_along, zone2}
use Rattle.zone_rows.specs.Listed.{listed}
use Rattle.zone_spec.specs.Either.{either}

-- past the last place the interpolation gives its entry too
pub along-is : (lum : Bool) (v n : ℕ) (e : ℕ → ℤ) (q : ℕ) → inside (pos v) (e n) ≡ true → sample_along lum (pos v) n e q ≡ between lum (pos v) (padded 1 n e) q
unfolding sample_along
along-is lum v n e q h = go (ltb n (q / 64)) refl
  where
    last : e n ≡ pos (nat_abs (e n))
    last = inside-pos v (e n) h

    at : n < q / 64 → (k : ℕ) → q / 64 ≤ k → padded 1 n e k ≡ pos (nat_abs (e n))
    at l k g = ap e (omega arith) ∙ last

    go : (t : Bool) → ltb n (q / 64) ≡ t → cond t (e n) (between lum (pos v) (padded 1 n e) q) ≡ between lum (pos v) (padded 1 n e) q
    go true t = last ∙ sym (between-flat lum v (padded 1 n e) q (nat_abs (e n)) (ap (inside (pos v)) (sym last) ∙ h) (at (ltb-true n (q / 64) t)))
    go false t = refl

-- a list that holds the edge
module _ (n size : ℕ) (e : ℕ → ℤ) (xs : List ℤ) (holds : (j : ℕ) → j < size → get_or xs j (pos 0) ≡ padded 4 n e j) where
  pub listed-is : (lum : Bool) (M : ℤ) (q : ℕ) → q / 64 + 7 ≤ size → between lum M (padded 1 n e) q ≡ listed lum M xs q
  listed-is lum M q h =
      between-move M (padded 1 n e) (λ k. get_or xs k (pos 0)) q 3 (λ k l m. ap e (omega arith) ∙ sym (holds (k + 3) (omega arith))) lum

  pub along-listed : (lum : Bool) (v q : ℕ) → inside (pos v) (e n) ≡ true → q / 64 + 7 ≤ size → sample_along lum (pos v) n e q ≡ listed lum (pos v) xs q
  along-listed lum v q h l = along-is lum v n e q h ∙ listed-is lum (pos v) q l

-- two lists that hold zone 2's edges
module _ (w h : ℕ) (above left : ℕ → ℤ) (xs ys : List ℤ) (size : ℕ) (top : (j : ℕ) → j < size → get_or xs j (pos 0) ≡ padded 4 w above j)
    (side : (j : ℕ) → j < size → get_or ys j (pos 0) ≡ padded 4 h left j) (dx dy : ℕ) (p : 0 < dx) (q : 0 < dy) (l : dx * dy ≤ 4096) where
  pub zone2-listed : (lum : Bool) (M : ℤ) (r c : ℕ) → r + 7 ≤ size → c + 7 ≤ size
      → zone2 lum M w h dx dy above left r c ≡ either lum M dx dy xs ys r c
  unfolding zone2 either
  zone2-listed lum M r c k m = go (leb ((r + 1) * dx) (64 * (c + 1))) refl
    where
      go : (t : Bool) → leb ((r + 1) * dx) (64 * (c + 1)) ≡ t
          → cond t (between lum M (padded 1 w above) (64 * (c + 1) - (r + 1) * dx)) (between lum M (padded 1 h left) (64 * (r + 1) - (c + 1) * dy))
          ≡ cond t (listed lum M xs (64 * (c + 1) - (r + 1) * dx)) (listed lum M ys (64 * (r + 1) - (c + 1) * dy))
      go true t = listed-is w size above xs top lum M (64 * (c + 1) - (r + 1) * dx) (omega arith)
      go false t = listed-is h size left ys side lum M (64 * (r + 1) - (c + 1) * dy) (omega arith)
