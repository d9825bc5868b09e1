-- The predictors in natural numbers, with B and M open: each sample is what the rows work out, and in 0..M where the edges are. Assumes nothing.
use mathlib.Core.Path.{◌≡◌, refl, sym, ◌∙◌}
use mathlib.Core.Bool.{true}
use mathlib.Core.List.{List}
use Prim.Native.Nat.{ℕ, ◌-◌, ◌*◌, ◌/◌, ◌^◌, ◌≤◌, ◌<◌}
use native.Mathlib.Omega.{arith}
use lib.IntN.{ℤ, pos, nat_abs}
use lib.Pow.{pow_pos}
use Rattle.numbers.specs.Size.{is_size}
use Rattle.signed.specs.Range.{inside, Edge}
use Rattle.signed.proofs.Mean.{mean-is}
use Rattle.signed.proofs.Range.{inside-abs, inside-pos, pos-inside}
use Rattle.smooth_steps.specs.Parts.{edge_at, part, weighed, mean}
use Rattle.smooth_steps.proofs.Parts.{weighed-most}
use Rattle.smooth_weights.specs.Weights.{log2, scale, weight}
use Rattle.smooth_weights.proofs.Sizes.{sized, size-some}
use Rattle.smooth_weights.proofs.Table.{weight-most}
use Rattle.smooth_spec.specs.Smooth.{blend, smoothed, smooth_v_at, smooth_h_at, smooth_at}

-- one step
blend_is : (k x y w : ℕ) → w ≤ 2 ^ k → blend k (pos x) (pos y) (pos w) ≡ pos (part (2 ^ k) x y w)
unfolding blend part
blend_is k x y w h = mean-is x y w (2 ^ k / 2) (2 ^ k) (pow_pos k) h

module _ (B : ℕ) (size : is_size B ≡ true) (M : ℕ) (e t : ℤ) (y : ℕ) (he : inside (pos M) e ≡ true) (ht : inside (pos M) t ≡ true) where
  abbrev v : ℕ
  v = weight (scale B) y

  abbrev w : ℕ
  w = B - 1 - y

  abbrev pub natural : ℕ
  natural = weighed B (nat_abs e) (nat_abs t) w v

  pub smoothed-is : smoothed B e t y ≡ pos natural
  smoothed-is =
      let p = (sized B size).power in
      (λ j. smoothed B (inside-pos M e he j) (inside-pos M t ht j) y)
      ∙ (λ j. blend 6 (blend_is (log2 B) (nat_abs e) (nat_abs t) w (omega (arith, p)) j) (pos (nat_abs t)) (pos v))
      ∙ blend_is 6 (part (2 ^ log2 B) (nat_abs e) (nat_abs t) w) (nat_abs t) v (omega (arith, weight-most (scale B) y))
      ∙ (λ j. pos (weighed (sym p j) (nat_abs e) (nat_abs t) w v))

  pub natural-most : natural ≤ M
  natural-most =
      weighed-most B M (nat_abs e) (nat_abs t) w v (size-some B size) (inside-abs M e he) (inside-abs M t ht) (omega arith)
      (omega (arith, weight-most (scale B) y))

  -- as the rows have it, whose end and weight are known by equations
  pub place_is : {end weight-y : ℕ} → end ≡ nat_abs e → weight-y ≡ v → pos (weighed B end (nat_abs t) w weight-y) ≡ smoothed B e t y
  place_is ee ev = (λ j. pos (weighed B (ee j) (nat_abs t) w (ev j))) ∙ sym smoothed-is

-- ---- the three predictors, each sample as the rows work it out, and in 0..M
module _ (B M : ℕ) (above left : List ℤ) (k : ℤ) (r c : ℕ) (size : is_size B ≡ true) (ha : Edge M (2 * B) above) (hl : Edge M (2 * B) left) (hr : r < B) (hc : c < B) where
  abbrev down : ℕ
  down = natural B size M (edge_at left B) (edge_at above c) r (hl B (omega arith)) (ha c (omega arith))

  abbrev across : ℕ
  across = natural B size M (edge_at above B) (edge_at left r) c (ha B (omega arith)) (hl r (omega arith))

  pub smooth_v-is : smooth_v_at B above left k r c ≡ pos down
  smooth_v-is = smoothed-is B size M _ _ _ (hl B (omega arith)) (ha c (omega arith))

  pub smooth_h-is : smooth_h_at B above left k r c ≡ pos across
  smooth_h-is = smoothed-is B size M _ _ _ (ha B (omega arith)) (hl r (omega arith))

  pub smooth-is : smooth_at B above left k r c ≡ pos (mean down across)
  smooth-is = rw (smooth_v-is, smooth_h-is) refl

  down-most : down ≤ M
  down-most = natural-most B size M _ _ _ (hl B (omega arith)) (ha c (omega arith))

  across-most : across ≤ M
  across-most = natural-most B size M _ _ _ (ha B (omega arith)) (hl r (omega arith))

  pub smooth_v-inside : inside (pos M) (smooth_v_at B above left k r c) ≡ true
  smooth_v-inside = rw smooth_v-is (pos-inside M down down-most)

  pub smooth_h-inside : inside (pos M) (smooth_h_at B above left k r c) ≡ true
  smooth_h-inside = rw smooth_h-is (pos-inside M across across-most)

  pub smooth-inside : inside (pos M) (smooth_at B above left k r c) ≡ true
  smooth-inside = rw smooth-is (pos-inside M (mean down across) (omega (arith, down-most, across-most)))
