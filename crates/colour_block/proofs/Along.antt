-- A row in two parts: the samples that take the centre for want of a neighbour, and the others. Each part's runs of luma are those of the row.
-- Assumes nothing.
use mathlib.Core.Path.{◌≡◌, sym, ◌∙◌, ap, subst}
use mathlib.Core.List.{List}
use Prim.Native.Nat.{ℕ, ◌+◌, ◌-◌, ◌<◌}
use native.Mathlib.Omega.{arith}
use lib.IntN.{ℤ}
use lib.ListN.{length, take, drop, length-take, length-drop}
use borrow.Author.Tests.{lt-ltb, le-ltb}
use Rattle.colour_row.specs.Mixed.{Luma, mixed}
use Rattle.colour_row.specs.Runs.{at, RunsAt}
use Rattle.colour_row.specs.declared.mix.Mix.{Mix}
use Rattle.colour_block.specs.Lines.{direction_entry, LumaRow}

module _ (k : Mix) (luma : List ℤ) (s step lead n : ℕ) (l : LumaRow k luma s step lead n) where
  early : (i : ℕ) → i < lead → direction_entry s step lead i ≡ s + i
  early i h = simp (lt-ltb i lead h)

  late : (i : ℕ) → direction_entry s step lead (lead + i) ≡ s + lead - step + i
  late i = simp (le-ltb (lead + i) lead (omega arith)) (omega (arith, l.behind))

  flat : lead ≡ 0 → (i : ℕ) → direction_entry s step lead i ≡ s - step + i
  flat e i = simp (le-ltb i lead (omega arith)) (omega (arith, l.behind))

  head-runs : RunsAt k luma s s lead
  head-runs = record {
    near-long = omega (arith, l.long, l.leads);
    centre-long = omega (arith, l.long, l.leads);
    near-in = λ i h. l.centre-in i (omega (arith, l.leads));
    centre-in = λ i h. l.centre-in i (omega (arith, l.leads));
  }

  tail-runs : RunsAt k luma (s + lead - step) (s + lead) (n - lead)
  tail-runs = record {
    near-long = omega (arith, l.long, l.leads);
    centre-long = omega (arith, l.long, l.leads);
    near-in = λ i h. subst (λ x. Luma k (at luma x)) (late i) (l.near-in (lead + i) (omega arith));
    centre-in = λ i h. subst (λ x. Luma k (at luma x)) (omega arith) (l.centre-in (lead + i) (omega arith));
  }

  -- the same of a part of the row
  pub head-part : (row : List ℤ) → length row ≡ n → RunsAt k luma s s (length (take (lead - 0) row))
  head-part row e = subst (λ m. RunsAt k luma s s m) (sym (simp length-take (omega (arith, l.leads)))) head-runs

  pub tail-part : (row : List ℤ) → length row ≡ n → RunsAt k luma (s + lead - step) (s + lead) (length (take (n - lead) (drop lead row)))
  tail-part row e = subst (λ m. RunsAt k luma (s + lead - step) (s + lead) m) (sym (simp (length-take, length-drop) (omega arith))) tail-runs

  -- the same of the whole row, where every sample has its neighbour
  pub all_runs : lead ≡ 0 → RunsAt k luma (s - step) s n
  all_runs e = record {
    near-long = omega (arith, l.long);
    centre-long = l.long;
    near-in = λ i h. subst (λ x. Luma k (at luma x)) (flat e i) (l.near-in i h);
    centre-in = l.centre-in;
  }

  -- the row's samples
  abbrev pub sample_at : ℕ → ℤ
  sample_at i = mixed k (at luma (direction_entry s step lead i)) (at luma (s + i))

  pub head-same : (i : ℕ) → i < lead → mixed k (at luma (s + i)) (at luma (s + i)) ≡ sample_at (0 + i)
  head-same i h =
      let e : i ≡ 0 + i = omega arith in
      ap (λ x. mixed k (at luma x) (at luma (s + i))) (sym (early i h)) ∙ ap sample_at e

  pub tail-same : (i : ℕ) → i < n - lead → mixed k (at luma (s + lead - step + i)) (at luma (s + lead + i)) ≡ sample_at (lead + i)
  tail-same i h =
      let e : s + lead + i ≡ s + (lead + i) = omega arith in
      λ j. mixed k (at luma (sym (late i) j)) (at luma (e j))

  pub all_same : lead ≡ 0 → (i : ℕ) → i < n → mixed k (at luma (s - step + i)) (at luma (s + i)) ≡ sample_at i
  all_same e i h = ap (λ x. mixed k (at luma x) (at luma (s + i))) (sym (flat e i))
