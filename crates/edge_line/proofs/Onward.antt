-- Edges that go on with one number, and what they are then: where an edge holds f's entries so far, and f is that number from there on, it holds f's
-- on. So do the 2B entries of an edge, and then zeros up to 128. Assumes nothing.
use mathlib.Core.Path.{◌≡◌, refl, sym, ◌∙◌, ap}
use mathlib.Core.List.{List}
use mathlib.Core.Logic.{◌⊎◌, inl, inr}
use Prim.Native.Nat.{ℕ, ◌+◌, ◌-◌, ◌*◌, ◌≤◌, ◌<◌}
use native.Mathlib.Omega.{arith}
use lib.IntN.{ℤ, pos}
use lib.ListN.{length, get_or, take, drop}
use lib.Seq.{ext_get_or}
use borrow.Author.Tests.{lt-ltb, le-ltb}
use borrow.Rule.Slice.PartMut.{put_mid}
use Rattle.lists.specs.Fill.{tab, filled}
use Rattle.lists.proofs.Fill.{length-filled, filled_at, filled-past, filled-part, filled-same}
use Rattle.edge_line.specs.Edge.{entry_of, edge_of}
use Rattle.edge_line.specs.Onward.{onward}
use Rattle.edge_line.proofs.Split.{below_or}

-- a list is filled when its first n entries are f's, and the others as they were
filled_is : (n : ℕ) (f : ℕ → ℤ) (xs ys : List ℤ) → n ≤ length xs → length ys ≡ length xs
    → ((i : ℕ) → i < n → get_or ys i (pos 0) ≡ f i) → ((i : ℕ) → n ≤ i → get_or ys i (pos 0) ≡ get_or xs i (pos 0))
    → ys ≡ filled n f xs
filled_is n f xs ys h e first others = ext_get_or (pos 0) ys (filled n f xs) (e ∙ sym (length-filled n f xs h)) (λ i l. at i (below_or i n))
  where
    at : (i : ℕ) → (i < n) ⊎ (n ≤ i) → get_or ys i (pos 0) ≡ get_or (filled n f xs) i (pos 0)
    at i (inl k) = first i k ∙ sym (filled_at n f xs i (pos 0) k)
    at i (inr k) = others i k ∙ sym (filled-past n f xs i (pos 0) k)

-- a part that is filled with v
pub onward-part : (from to : ℕ) (v : ℤ) (xs row : List ℤ) → from ≤ to → to ≤ length xs
    → row ≡ tab (length (take (to - from) (drop from xs))) (λ i. v)
    → put_mid from (to - from) xs row ≡ filled to (onward xs from v) xs
onward-part from to v xs row l h u =
    filled-part from to (onward xs from v) (λ i. v) xs xs row l h
    (filled_is from (onward xs from v) xs xs (omega arith) refl (λ i k. sym (rw (lt-ltb i from k))) (λ i k. refl))
    u
    (λ i k. let past : from ≤ from + i = omega arith in sym (rw (le-ltb (from + i) from past)))

-- xs is the edge at first, and ys has f's entries up to `from`
pub onward-filled : (from to : ℕ) (v : ℤ) (f : ℕ → ℤ) (xs ys : List ℤ) → from ≤ to → to ≤ length xs → ys ≡ filled from f xs
    → ((i : ℕ) → from ≤ i → i < to → v ≡ f i)
    → filled to (onward ys from v) ys ≡ filled to f xs
onward-filled from to v f xs ys l h e on =
    filled_is to f xs (filled to (onward ys from v) ys) h (length-filled to (onward ys from v) ys (omega (arith, long)) ∙ long)
    (λ i k. filled_at to (onward ys from v) ys i (pos 0) k ∙ there i k (below_or i from))
    (λ i k. filled-past to (onward ys from v) ys i (pos 0) k ∙ ap (λ (zs : List ℤ). get_or zs i (pos 0)) e ∙ filled-past from f xs i (pos 0) (omega arith))
  where
    long : length ys ≡ length xs
    long = ap (λ (zs : List ℤ). length zs) e ∙ length-filled from f xs (omega arith)

    there : (i : ℕ) → i < to → (i < from) ⊎ (from ≤ i) → onward ys from v i ≡ f i
    there i k (inl m) = rw (lt-ltb i from m) (ap (λ (zs : List ℤ). get_or zs i (pos 0)) e ∙ filled_at from f xs i (pos 0) m)
    there i k (inr m) = rw (le-ltb i from m) (on i m k)

-- 2B entries, then zeros up to 128
pub edge-cleared : (B : ℕ) (value : ℕ → ℤ) (xs ys zs : List ℤ) → B ≤ 64 → 128 ≤ length xs → ys ≡ filled (2 * B) value xs
    → zs ≡ filled 128 (onward ys (2 * B) (pos 0)) ys → zs ≡ edge_of B value xs
edge-cleared B value xs ys zs b h e q =
    q
    ∙ onward-filled (2 * B) 128 (pos 0) (entry_of B value) xs ys (omega arith) h
    (e ∙ filled-same (2 * B) value (entry_of B value) xs (λ i l. sym (rw (lt-ltb i (2 * B) l))))
    (λ i l k. sym (rw (le-ltb i (2 * B) l)))
