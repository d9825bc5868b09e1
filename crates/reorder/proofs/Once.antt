-- What a loop over the order tests says `Once`, and `Once` says it; how such a loop goes on, and what its two refusals say. Assumes nothing.
use mathlib.Core.Path.{◌≡◌, sym, ap, ◌∙◌}
use mathlib.Core.Logic.{◌≢◌}
use mathlib.Core.List.{List}
use Prim.Native.Nat.{ℕ, ◌+◌, ◌≤◌, ◌<◌}
use native.Mathlib.Decide.{ℕ_discrete}
use native.Mathlib.Omega.{arith}
use lib.ListN.{length, get_or}
use Rattle.reorder.specs.Entry.{place}
use Rattle.reorder.specs.Once.{Once, Fresh, FreshTo}
use Rattle.reorder.proofs.Entry.{place-lt}
use Rattle.reorder.proofs.Counts.{once-below, once-single, once-of-counts}
use Rattle.reorder.proofs.Places.{count-entry, entry_place, place-entry, single-of-places}

pub once-of-fresh : (n : ℕ) (l : List ℕ) → Fresh n l → Once n l
once-of-fresh n l f =
    once-of-counts n l f.long
    (λ x c. rw (entry_place l x c) at (f.below (place x l) (rw f.long at (place-lt x l c))))
    (single-of-places l (λ a b h k. f.differ a b h (rw f.long at k)))

pub fresh-of-once : (n : ℕ) (l : List ℕ) → Once n l → Fresh n l
fresh-of-once n l o = record {
  long = o.long;
  below = λ k h. once-below n l o (get_or l k 0) (count-entry l k (omega (arith, o.long)));
  differ = λ a b h k e. omega (arith, sym (at a (omega arith)) ∙ ap (λ x. place x l) e ∙ at b k);
}
  where
    at : (k : ℕ) → k < n → place (get_or l k 0) l ≡ k
    at k h = place-entry l k (omega (arith, o.long)) (once-single n l o (get_or l k 0))

pub fresh-none : (n : ℕ) (l : List ℕ) → FreshTo n 0 l
fresh-none n l = record { below = λ k h. absurd (omega arith); differ = λ a c h k e. omega arith }

pub fresh-more : (n b : ℕ) (l : List ℕ) → FreshTo n b l → get_or l b 0 < n → ((a : ℕ) → a < b → get_or l a 0 ≢ get_or l b 0) → FreshTo n (b + 1) l
fresh-more n b l f h d = record {
  below = λ k q. elim (ℕ_discrete k b) [ yes e ↦ rw e h | no ne ↦ f.below k (omega arith) ];
  differ = λ a c q r. elim (ℕ_discrete c b) [ yes e ↦ rw e (d a (omega arith)) | no ne ↦ f.differ a c q (omega arith) ];
}

pub once-of-passed : (n : ℕ) (l : List ℕ) → length l ≡ n → FreshTo n n l → Once n l
once-of-passed n l e f = once-of-fresh n l (record { long = e; below = f.below; differ = f.differ })

pub not-once-high : (n k : ℕ) (l : List ℕ) → k < n → n ≤ get_or l k 0 → ¬ (Once n l)
not-once-high n k l h q o = omega (arith, (fresh-of-once n l o).below k h)

pub not-once-twice : (n a b : ℕ) (l : List ℕ) → a < b → b < n → get_or l a 0 ≡ get_or l b 0 → ¬ (Once n l)
not-once-twice n a b l h q e o = (fresh-of-once n l o).differ a b h q e
