-- Laws of interpolation: what is clipped is in 0..M; taps over a part of a list are the taps over the whole from there on; samples that are whole
-- entries apart. Assumes nothing.
use mathlib.Core.Bool.{Bool, true, false, cond, true≢false}
use mathlib.Core.Path.{◌≡◌, refl, sym, ◌∙◌, ap}
use Prim.Native.Nat.{ℕ, ◌≤◌, ◌<◌, ◌+◌, ◌-◌, ◌*◌, ◌/◌}
use mathlib.Core.List.{List}
use lib.ListN.{length, get_or, take, drop}
use native.Mathlib.Omega.{arith}
use lib.IntN.{ℤ, pos, negsuc, nat_abs}
use lib.Signed.{lt_z}
use borrow.Author.Tests.{leb-true, ltb-false, le-ltb}
use Rattle.signed.specs.Range.{inside, Edge}
use Rattle.signed.proofs.Range.{inside-abs, pos-inside}
use Rattle.lists.proofs.Fill.{rest_at, rest-each}
use Rattle.taps.specs.F4.{f4}
use Rattle.taps.specs.Interp.{clip, taps4, taps2, luma, chroma, phase, between}

-- what is clipped to 0..M is in 0..M
pub clip-small : (m : ℕ) (M x : ℤ) → inside (pos m) M ≡ true → nat_abs (clip M x) ≤ m
unfolding clip
clip-small m M x h = go M x (lt_z x (pos 0)) (lt_z M x) refl refl (inside-abs m M h) h
  where
    go : (M x : ℤ) (s t : Bool) → lt_z x (pos 0) ≡ s → lt_z M x ≡ t → nat_abs M ≤ m → inside (pos m) M ≡ true → nat_abs (cond s (pos 0) (cond t M x)) ≤ m
    go M x true t p q h k = omega arith
    go M x false true p q h k = h
    go (pos M) (pos x) false false p q h k = omega (arith, ltb-false M x q)
    go (negsuc M) (pos x) false false p q h k = absurd (true≢false q)
    go M (negsuc x) false false p q h k = absurd (true≢false p)

pub clip-inside : (M : ℕ) (x : ℤ) → inside (pos M) (clip (pos M) x) ≡ true
unfolding clip
clip-inside M x = go x (lt_z x (pos 0)) (lt_z (pos M) x) refl refl
  where
    go : (x : ℤ) (s t : Bool) → lt_z x (pos 0) ≡ s → lt_z (pos M) x ≡ t → inside (pos M) (cond s (pos 0) (cond t (pos M) x)) ≡ true
    go x true t p q = pos-inside M 0 (omega arith)
    go x false true p q = pos-inside M M (omega arith)
    go (pos x) false false p q = pos-inside M x (ltb-false M x q)
    go (negsuc x) false false p q = absurd (true≢false p)

-- what is in 0..M is not changed
pub clip-same : (M : ℕ) (z : ℤ) → inside (pos M) z ≡ true → clip (pos M) z ≡ z
unfolding clip inside
clip-same M (pos v) h = let l = leb-true v M h in rw (le-ltb v 0 (omega arith), le-ltb M v (omega arith))
clip-same M (negsuc v) h = absurd (true≢false (sym h))

inside-neg : (m n : ℕ) → inside (pos m) (negsuc n) ≡ true → false ≡ true
unfolding inside
inside-neg m n h = h

-- in two steps: M is not below 0
pub clip-steps : (m : ℕ) (M x : ℤ) → inside (pos m) M ≡ true → cond (lt_z M (cond (lt_z x (pos 0)) (pos 0) x)) M (cond (lt_z x (pos 0)) (pos 0) x) ≡ clip M x
unfolding clip
clip-steps m M x h = go (lt_z x (pos 0)) M h
  where
    go : (t : Bool) (M : ℤ) → inside (pos m) M ≡ true → cond (lt_z M (cond t (pos 0) x)) M (cond t (pos 0) x) ≡ cond t (pos 0) (cond (lt_z M x) M x)
    go false M h = refl
    go true (pos n) h = rw (le-ltb n 0 (omega arith))
    go true (negsuc n) h = absurd (true≢false (sym (inside-neg m n h)))

-- ---- a list lent from s on
abbrev pub rest : ℕ → List ℤ → List ℤ
rest s xs = take (length xs - s) (drop s xs)

pub rest-edge : (v n m s : ℕ) (xs : List ℤ) → n ≤ length xs → s + m ≤ n → Edge v n xs → Edge v m (rest s xs)
rest-edge v n m s xs = rest-each (λ z. inside (pos v) z ≡ true) n m s xs (pos 0)

-- its entries i + t are the whole list's s + i + t
rest-to : (s : ℕ) (xs : List ℤ) (i t : ℕ) → s + i + t < length xs → get_or (rest s xs) (i + t) (pos 0) ≡ get_or xs (s + i + t) (pos 0)
rest-to s xs i t h = rest_at s xs (i + t) (pos 0) (omega arith) ∙ ap (λ (k : ℕ). get_or xs k (pos 0)) (omega arith)

module _ (xs : List ℤ) where
  abbrev p : ℕ → ℤ
  p k = get_or xs k (pos 0)

  pub luma-rest : (M f0 f1 f2 f3 : ℤ) (s i b : ℕ) → s + i + 3 < length xs → s + i ≡ b
      → luma M f0 f1 f2 f3 (λ k. get_or (rest s xs) k (pos 0)) i ≡ luma M f0 f1 f2 f3 p b
  luma-rest M f0 f1 f2 f3 s i b h e =
      (λ j. clip M (taps4 f0 f1 f2 f3 (rest_at s xs i (pos 0) (omega arith) j) (rest-to s xs i 1 (omega arith) j) (rest-to s xs i 2 (omega arith) j) (rest-to s xs i 3 (omega arith) j)))
      ∙ ap (λ (k : ℕ). luma M f0 f1 f2 f3 p k) e

  pub chroma-rest : (M g f : ℤ) (s i b : ℕ) → s + i + 1 < length xs → s + i ≡ b
      → chroma M g f (λ k. get_or (rest s xs) k (pos 0)) i ≡ chroma M g f p b
  chroma-rest M g f s i b h e =
      (λ j. clip M (taps2 g f (rest_at s xs i (pos 0) (omega arith) j) (rest-to s xs i 1 (omega arith) j)))
      ∙ ap (λ (k : ℕ). chroma M g f p k) e

-- ---- from one sample to the next the base moves by one entry, and the phase stays
module _ (M : ℤ) (p : ℕ → ℤ) (q i : ℕ) where
  base_on : q / 64 + i ≡ (q + 64 * i) / 64
  base_on = omega arith

  phase-on : phase q ≡ phase (q + 64 * i)
  phase-on = ap (λ (x : ℕ). x / 2) (omega arith)

  pub between-luma : luma M (f4 (phase q) 0) (f4 (phase q) 1) (f4 (phase q) 2) (f4 (phase q) 3) p (q / 64 + i) ≡ between true M p (q + 64 * i)
  unfolding between
  between-luma = λ j. luma M (f4 (phase-on j) 0) (f4 (phase-on j) 1) (f4 (phase-on j) 2) (f4 (phase-on j) 3) p (base_on j)

  pub between-chroma : chroma M (pos (32 - phase q)) (pos (phase q)) p (q / 64 + 1 + i) ≡ between false M p (q + 64 * i)
  unfolding between
  between-chroma = λ j. chroma M (pos (32 - phase-on j)) (pos (phase-on j)) p (next j)
    where
      next : q / 64 + 1 + i ≡ (q + 64 * i) / 64 + 1
      next = omega arith

-- ---- a list that starts s entries earlier holds the same samples 64 s further on
module _ (M : ℤ) (p r : ℕ → ℤ) (q s : ℕ) (h : (k : ℕ) → q / 64 ≤ k → k < q / 64 + 4 → p k ≡ r (k + s)) where
  there : (a b : ℕ) → q / 64 ≤ a → a < q / 64 + 4 → a + s ≡ b → p a ≡ r b
  there a b l m e = h a l m ∙ ap r e

  abbrev b : ℕ
  b = (q + 64 * s) / 64

  pub between-move : (lum : Bool) → between lum M p q ≡ between lum M r (q + 64 * s)
  unfolding between
  between-move true = λ j.
      clip M (taps4 (f4 (phase-on M p q s j) 0) (f4 (phase-on M p q s j) 1) (f4 (phase-on M p q s j) 2) (f4 (phase-on M p q s j) 3) (there (q / 64) b (omega arith) (omega arith) (omega arith) j) (there (q / 64 + 1) (b + 1) (omega arith) (omega arith) (omega arith) j) (there (q / 64 + 2) (b + 2) (omega arith) (omega arith) (omega arith) j) (there (q / 64 + 3) (b + 3) (omega arith) (omega arith) (omega arith) j))
  between-move false = λ j.
      clip M (taps2 (pos (32 - phase-on M p q s j)) (pos (phase-on M p q s j)) (there (q / 64 + 1) (b + 1) (omega arith) (omega arith) (omega arith) j) (there (q / 64 + 1 + 1) (b + 1 + 1) (omega arith) (omega arith) (omega arith) j))
