-- How far along the line an entry's sample lies: for the first B entries, for those from B on, and for the repeats; so what stands behind the
-- 2B entries is exactly the two runs. Assumes nothing.
use mathlib.Core.Path.{◌≡◌, sym, ◌∙◌, ap}
use mathlib.Core.Bool.{Bool, true, ◌&&◌}
use mathlib.Core.Logic.{◌⊎◌, inl, inr}
use Prim.Native.Nat.{ℕ, ◌+◌, ◌-◌, ◌*◌, ◌≤◌, ◌<◌, min}
use native.Mathlib.Omega.{arith}
use borrow.Author.Tests.{lt-ltb, le-ltb}
use Rattle.signed.proofs.Range.{and_both}
use Rattle.edge_line.specs.Along.{given, along}
use Rattle.edge_line.specs.Every.{every}
use Rattle.edge_line.proofs.Split.{below_or}
use Rattle.edge_line.proofs.Every.{every-at, every-all, both_ways, and-of}

module _ (B a top : ℕ) where
  abbrev last : ℕ
  last = B + min top B - 1

  pub along-near : (c : ℕ) → c < B → along B a top c ≡ min c (a - 1)
  unfolding along
  along-near c h =
      let k : min c last ≡ c = omega arith in
      rw (k, lt-ltb c B h)

  -- the samples that are there
  pub along-here : (c : ℕ) → c < min B a → along B a top c ≡ c
  along-here c h = along-near c (omega arith) ∙ omega arith

  pub along-far : (c : ℕ) → B ≤ c → c < B + min top B → along B a top c ≡ c
  unfolding along
  along-far c l h =
      let k : min c last ≡ c = omega arith in
      rw (k, le-ltb c B l)

  -- the last entry is repeated
  pub along-past : (c : ℕ) → along B a top (min c last) ≡ along B a top c
  unfolding along
  along-past c = let k : min (min c last) last ≡ min c last = omega arith in rw k

  -- no more than B of either count
  pub along-least : (c : ℕ) → along B (min a B) (min top B) c ≡ along B a top c
  unfolding along
  along-least c =
      let k : min c (B + min (min top B) B - 1) ≡ min c last = omega arith in
      rw k (go (min c last) (below_or (min c last) B))
    where
      go : (i : ℕ) → (i < B) ⊎ (B ≤ i) → given B (min a B) i ≡ given B a i
      go i (inl h) = rw (lt-ltb i B h) (omega arith)
      go i (inr h) = rw (le-ltb i B h)

  -- each entry's sample is in one of the two runs
  pub along-in : 1 ≤ B → 1 ≤ a → (c : ℕ) → (along B a top c < min B a) ⊎ ((B ≤ along B a top c) × (along B a top c < B + min top B))
  along-in b h c = go (below_or (min c last) B)
    where
      go : (min c last < B) ⊎ (B ≤ min c last) → (along B a top c < min B a) ⊎ ((B ≤ along B a top c) × (along B a top c < B + min top B))
      go (inl k) = let e = sym (along-past c) ∙ along-near (min c last) k in inl (omega arith)
      go (inr k) = let e = sym (along-past c) ∙ along-far (min c last) k (omega arith) in inr (omega arith, omega arith)

  -- a test of what stands behind the 2B entries is a test of the two runs
  pub every-along : (f : ℕ → Bool) → 1 ≤ B → 1 ≤ a → every (λ c. f (along B a top c)) (2 * B) ≡ (every f (min B a) && every (λ i. f (B + i)) (min top B))
  every-along f b h = both_ways (every behind (2 * B)) (every f (min B a) && every more (min top B)) runs entries
    where
      behind : ℕ → Bool
      behind c = f (along B a top c)

      more : ℕ → Bool
      more i = f (B + i)

      runs : every behind (2 * B) ≡ true → (every f (min B a) && every more (min top B)) ≡ true
      runs e =
          and-of (every f (min B a)) (every more (min top B))
          (every-all f (min B a) (λ i l. ap f (sym (along-here i l)) ∙ every-at behind (2 * B) e i (omega arith)))
          (every-all more (min top B) (λ i l. ap f (sym (along-far (B + i) (omega arith) (omega arith))) ∙ every-at behind (2 * B) e (B + i) (omega arith)))

      entry : (every f (min B a) ≡ true) × (every more (min top B) ≡ true) → (k : ℕ) → (k < min B a) ⊎ ((B ≤ k) × (k < B + min top B)) → f k ≡ true
      entry p k (inl l) = every-at f (min B a) p.0 k l
      entry p k (inr l) =
          let q : k ≡ B + (k - B) = omega arith in
          ap f q ∙ every-at more (min top B) p.1 (k - B) (omega arith)

      entries : (every f (min B a) && every more (min top B)) ≡ true → every behind (2 * B) ≡ true
      entries e = every-all behind (2 * B) (λ c l. entry (and_both (every f (min B a)) (every more (min top B)) e) (along B a top c) (along-in b h c))
