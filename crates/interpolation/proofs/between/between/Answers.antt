-- `between` meets its contract: the phase's taps are the table's, and its place moves by whole entries. Assumes nothing.
use Prim.Native.Nat.{ℕ, ◌+◌, ◌-◌, ◌*◌, ◌/◌, ◌%◌, ◌≤◌, ◌<◌}
use native.Mathlib.Omega.{arith}
use mathlib.Core.Bool.{Bool}
use mathlib.Core.Path.{◌≡◌, refl, sym, ◌∙◌, ap, subst}
use mathlib.Core.List.{List}
use lib.ListN.{length, get_or}
use lib.IntN.{ℤ, pos, nat_abs}
use mir.Syntax.{w32}
use mir.Val.{to_z, of_z}
use mir.Facts.{to_z-of_z, to_z_pos}
use Rattle.signed.specs.Range.{Edge}
use Rattle.signed.proofs.Bound.{back-abs}
use Rattle.lists.specs.Fill.{tab}
use Rattle.lists.specs.Block.{sample}
use Rattle.lists.proofs.Fill.{tab-same, rest-length}
use Rattle.taps.specs.Interp.{Taps, between, luma, chroma}
use Rattle.taps.specs.Quads.{table_of, tap, tapped}
use Rattle.taps.proofs.Laws.{rest, rest-edge, luma-rest, chroma-rest, between-chroma}
use Rattle.taps.proofs.Four.{tap-small, tapped-is}
use Rattle.interpolation.proofs.between.between.Goals as goal

-- a list of samples, the table of the plane's taps, and n samples from q on
module _ (xs : List ℤ) (lum : Bool) (filters : List (List ℤ)) (q : ℕ) (m : ℤ) (n : ℕ)
    (long : (q / 64 + n + 3 ≤ length xs) × Edge 4095 (q / 64 + n + 3) xs) (table : filters ≡ table_of lum) where
  abbrev f : ℕ
  f = q % 64 / 2

  abbrev t : ℕ → ℤ
  t k = tap filters f k

  -- the taps of the phase are the table's and small, and the same when read back
  taps : Taps (t 0) (t 1) (t 2) (t 3)
  taps =
      subst (λ (fs : List (List ℤ)). Taps (tap fs f 0) (tap fs f 1) (tap fs f 2) (tap fs f 3)) (sym table) (tap-small lum f (omega arith))

  tap-back : (k : ℕ) → nat_abs (t k) ≤ 128 → to_z w32 (of_z w32 (t k)) ≡ t k
  tap-back k h = back-abs w32 (t k) (omega arith)

  abbrev p : ℕ → ℤ
  p k = get_or xs k (pos 0)

  -- four taps at the entries of the part of the list from the base on
  abbrev four : ℕ → ℤ
  four i = tapped filters m f (λ k. get_or (rest (q / 64) xs) k (pos 0)) i

  by-four : (i : ℕ) → i < n → four i ≡ between lum m p (q + 64 * i)
  by-four i h =
      luma-rest xs m _ _ _ _ (q / 64) i (q / 64 + i) (omega arith) refl
      ∙ ap (λ (fs : List (List ℤ)). tapped fs m f p (q / 64 + i)) table
      ∙ tapped-is lum m p q i (λ k l o. long.1 k (omega arith))

  row-by-four : tab n (λ i. sample (four i)) ≡ tab n (λ i. sample (between lum m p (q + 64 * i)))
  row-by-four = tab-same _ _ _ (λ i h. ap sample (by-four i h))

pub between_quad-requires-clause-f_bound : goal.between_quad-requires-clause-f_bound
between_quad-requires-clause-f_bound c =
    (omega arith, taps c.args.list.now c.args.lum c.args.filters.now c.args.q c.args.m (length c.args.row.now) c.requires.row_in_bounds c.requires.filters_value.0, simp (to_z-of_z, c.ranges.m) c.requires.filters_value.1)

pub luma_long-requires-clause-row_in_bounds : goal.luma_long-requires-clause-row_in_bounds
luma_long-requires-clause-row_in_bounds c =
    let b = c.args.q / 64 in
    let xs = c.args.list.now in
    (omega (arith, rest-length b xs), rest-edge 4095 _ _ b xs c.requires.row_in_bounds.0 (omega arith) c.requires.row_in_bounds.1)

pub luma_long-requires-clause-taps : goal.luma_long-requires-clause-taps
luma_long-requires-clause-taps c =
    let back = tap-back c.args.list.now c.args.lum c.args.filters.now c.args.q c.args.m (length c.args.row.now) c.requires.row_in_bounds c.requires.filters_value.0 in
    let t = taps c.args.list.now c.args.lum c.args.filters.now c.args.q c.args.m (length c.args.row.now) c.requires.row_in_bounds c.requires.filters_value.0 in
    simp (to_z-of_z, c.ranges.m, back 0 t.t0, back 1 t.t1, back 2 t.t2, back 3 t.t3) (t, c.requires.filters_value.1)

pub returns-then-row-eq4 : goal.returns-then-row-eq4
returns-then-row-eq4 c =
    c.between_quad.ensures
    ∙ (λ j. tab (length c.args.row.now) (λ i. sample (tapped c.args.filters.now (to_z-of_z c.ranges.m j) (c.args.q % 64 / 2) (λ k. get_or (rest (c.args.q / 64) c.args.list.now) k (pos 0)) i)))
    ∙ row-by-four c.args.list.now c.args.lum c.args.filters.now c.args.q c.args.m (length c.args.row.now) c.requires.row_in_bounds c.requires.filters_value.0

pub returns-then-lum : goal.returns-then-lum
returns-then-lum c =
    let back = tap-back c.args.list.now c.args.lum c.args.filters.now c.args.q c.args.m (length c.args.row.now) c.requires.row_in_bounds c.requires.filters_value.0 in
    let t = taps c.args.list.now c.args.lum c.args.filters.now c.args.q c.args.m (length c.args.row.now) c.requires.row_in_bounds c.requires.filters_value.0 in
    c.luma_long.ensures
    ∙ (λ j. tab (length c.args.row.now) (λ i. sample (luma (to_z-of_z c.ranges.m j) (back 0 t.t0 j) (back 1 t.t1 j) (back 2 t.t2 j) (back 3 t.t3 j) (λ k. get_or (rest (c.args.q / 64) c.args.list.now) k (pos 0)) i)))
    ∙ row-by-four c.args.list.now c.args.lum c.args.filters.now c.args.q c.args.m (length c.args.row.now) c.requires.row_in_bounds c.requires.filters_value.0

-- chroma's two taps are the same when read back
g-is : (f : ℕ) → f ≤ 32 → to_z w32 (32 - f) ≡ pos (32 - f)
g-is f h = to_z_pos w32 {n = 32 - f} (omega arith)

f-is : (f : ℕ) → f ≤ 32 → to_z w32 f ≡ pos f
f-is f h = to_z_pos w32 {n = f} (omega arith)

pub returns-else-lum : goal.returns-else-lum
returns-else-lum c =
    let L = length c.args.row.now in
    let q = c.args.q in
    let ph = q % 64 / 2 in
    let xs = c.args.list.now in
    let p = λ (k : ℕ). get_or xs k (pos 0) in
    c.chroma_long.ensures
    ∙ (λ j. tab L (λ i. sample (chroma (to_z-of_z c.ranges.m j) (g-is ph (omega arith) j) (f-is ph (omega arith) j) (λ k. get_or (rest (q / 64 + 1) xs) k (pos 0)) i)))
    ∙ tab-same L _ _ (λ i h. ap sample (chroma-rest xs c.args.m _ _ (q / 64 + 1) i (q / 64 + 1 + i) (omega arith) refl ∙ between-chroma c.args.m p q i))
    ∙ ap (λ (b : Bool). tab L (λ i. sample (between b c.args.m p (q + 64 * i)))) (sym c.if-lum.false)
