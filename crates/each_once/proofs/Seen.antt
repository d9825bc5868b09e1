-- The flags of the numbers that stood before: a number's flag is set exactly when some entry before place b is that number. Assumes nothing.
use mathlib.Core.Path.{◌≡◌, refl, sym, ◌∙◌}
use mathlib.Core.Logic.{◌≢◌}
use mathlib.Core.Bool.{Bool, true, false, true≢false}
use mathlib.Core.List.{List}
use Prim.Native.Nat.{ℕ, zero, suc, ◌+◌, ◌<◌}
use native.Mathlib.Decide.{ℕ_discrete}
use native.Mathlib.Omega.{arith}
use lib.ListN.{length, get_or, set, replicate}
use lib.Seq.{get_or-set_same, get_or-set_other}

pub all_same : {A : Type 0} (a : A) (n v : ℕ) → get_or (replicate n a) v a ≡ a
all_same a zero v = refl
all_same a (suc n) zero = refl
all_same a (suc n) (suc v) = all_same a n v

pub record Seen (b : ℕ) (order : List ℕ) (seen : List Bool) : Type 0 where
  pub stood : (v : ℕ) → get_or seen v false ≡ true → (a : ℕ) × (a < b) × (get_or order a 0 ≡ v)
  pub noted : (a : ℕ) → a < b → get_or seen (get_or order a 0) false ≡ true

pub seen_none : (n : ℕ) (order : List ℕ) → Seen 0 order (replicate n false)
seen_none n order = record {
  stood = λ v e. absurd (true≢false (sym e ∙ all_same false n v));
  noted = λ a h. absurd (omega arith);
}

module _ (b : ℕ) (order : List ℕ) (seen : List Bool) (s : Seen b order seen) where
  -- an entry whose flag is not set differs from those before
  pub seen-not : get_or seen (get_or order b 0) false ≡ false → (a : ℕ) → a < b → get_or order a 0 ≢ get_or order b 0
  seen-not e a h q = true≢false (sym (rw q at (s.noted a h)) ∙ e)

  pub seen_more : get_or order b 0 < length seen → Seen (b + 1) order (set seen (get_or order b 0) true)
  seen_more l = record {
    stood = λ v e. elim (ℕ_discrete v (get_or order b 0)) [
      | yes q ↦ (b, omega arith, sym q)
      | no nq ↦ let t = s.stood v (sym (get_or-set_other seen (get_or order b 0) v true false nq) ∙ e) in (t.0, omega (arith, t.1), t.2)
    ];
    noted = λ a h. elim (ℕ_discrete (get_or order a 0) (get_or order b 0)) [
      | yes q ↦ rw q (get_or-set_same seen (get_or order b 0) true false l)
      | no nq ↦ get_or-set_other seen (get_or order b 0) (get_or order a 0) true false nq ∙ s.noted a (before a h nq)
    ];
  }
    where
      before : (a : ℕ) → a < b + 1 → get_or order a 0 ≢ get_or order b 0 → a < b
      before a h nq = elim (ℕ_discrete a b) [ yes q ↦ absurd (nq (rw q)) | no q ↦ omega arith ]
