-- Lines of places, one after the other: what holds after j of them, for either way over a line. Assumes nothing.
use mathlib.Core.Path.{◌≡◌, sym, ap}
use mathlib.Core.List.{List}
use Prim.Native.Nat.{ℕ, ◌+◌, ◌*◌, ◌-◌, ◌^◌, ◌≤◌}
use native.Mathlib.Nat.{mul-le-mul, le_refl}
use native.Mathlib.Omega.{arith}
use lib.IntN.{ℤ}
use Rattle.numbers.specs.Depth.{most}
use Rattle.colour_samples.specs.declared.totals.Totals.{Totals}
use Rattle.colour_samples.specs.Nine.{NineMost}
use Rattle.colour_samples.specs.Took.{Took}
use Rattle.colour_samples.proofs.Grown.{wider}
use Rattle.colour_samples.proofs.Steps.{took-none, took-then, took-as}
use Rattle.colour_lines.specs.declared.lines.Lines.{Lines}
use Rattle.colour_lines.specs.TookLines.{TookLine, TookLines, read_at, more_at, over_lines}
use Rattle.colour_lines.proofs.Folds.{fold-none, fold_next}

few : (j n : ℕ) → j ≤ 254 → n ≤ 254 → j * (n * (4095 * 4095)) ≤ 2 ^ 40
few j n h k = omega (arith, mul-le-mul h (mul-le-mul k (le_refl (4095 * 4095))))

module _ (D : ℕ) (luma chroma : List ℤ) (l : Lines) (back : ℕ) (g : Totals) where
  -- the first j lines
  abbrev pub FirstLines : ℕ → Totals → Type 0
  FirstLines j t =
      Took D (over_lines j l back (read_at (most D) luma chroma)) (over_lines j l back (more_at D luma chroma)) (j * (l.places * (4095 * 4095))) g t

  pub lines_none : FirstLines 0 g
  lines_none = took-as (λ ok. sym (fold-none _ ok)) (λ s. sym (fold-none _ s)) (omega arith) (took-none g)

  pub lines_next : (j : ℕ) (t r : Totals) → FirstLines j t
      → TookLine D luma chroma (l.at + j * l.apart - back) (l.at + j * l.apart) l.places l.step t r → FirstLines (j + 1) r
  lines_next j t r h k = took-as (λ ok. sym (fold_next j _ ok)) (λ x. sym (fold_next j _ x)) (omega arith) (took-then h k)

  module _ (short : l.places ≤ 254) (j : ℕ) (t : Totals) (h : FirstLines j t) where
    -- the sums stay small
    pub lines-room : j ≤ 254 → NineMost (2 ^ 40) g.sums → NineMost (2 ^ 41) t.sums
    lines-room m n = wider (omega (arith, few j l.places m short)) (h.grown (2 ^ 40) n)

    pub lines-all : j ≡ l.lines → l.lines ≤ 254 → TookLines D luma chroma back l g t
    lines-all e m =
        took-as (λ ok. ap (λ n. over_lines n l back (read_at (most D) luma chroma) ok) e) (λ x. ap (λ n. over_lines n l back (more_at D luma chroma) x) e)
        (few j l.places (omega arith) short) h
