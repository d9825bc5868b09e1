-- What the samples of a window give: nothing counted, refusals 13 and 14, parameters. Assumes nothing.
use mathlib.Core.Path.{◌≡◌, sym, ap}
use mathlib.Core.Bool.{true, false}
use Prim.Native.Nat.{ℕ}
use lib.IntN.{ℤ}
use Rattle.std.specs.Prelude.{Ok, Err}
use Rattle.numbers.specs.Depth.{most}
use Rattle.numbers.specs.declared.answer.Refusal.TheVariants.{BadColourSample, SumTooLarge}
use Rattle.numbers.specs.declared.colour.ColourDirection.{ColourDirection}
use Rattle.elimination.specs.declared.Params.{Params}
use Rattle.colour_sums.specs.Sum.{sums_of, count_of, is_readable}
use Rattle.colour_sums.specs.declared.window.Window.{Window}
use Rattle.colour_sums.proofs.Count.{none-readable, none-summed}
use Rattle.colour_solve.specs.Shift.{flat, params_of}
use Rattle.colour_solve.specs.Small.{is_small}
use Rattle.colour_params.specs.Derived.{window_params, sampled}

module _ (luma chroma : ℕ → ℕ → ℤ) (w : Window) (direction : ColourDirection) (D : ℕ) where
  pub sampled-bad : is_readable (most D) direction luma chroma w ≡ false → Err BadColourSample ≡ sampled luma chroma w direction D
  unfolding sampled
  sampled-bad r = simp r

  pub sampled-large : is_readable (most D) direction luma chroma w ≡ true → is_small (sums_of D direction luma chroma w) ≡ false
      → Err SumTooLarge ≡ sampled luma chroma w direction D
  unfolding sampled
  sampled-large r s = simp (r, s)

  pub sampled-done : (p : Params) → is_readable (most D) direction luma chroma w ≡ true → is_small (sums_of D direction luma chroma w) ≡ true
      → p ≡ params_of D (count_of w) (sums_of D direction luma chroma w) → Ok p ≡ sampled luma chroma w direction D
  unfolding sampled window_params
  sampled-done p r s e = simp (r, s, e)

  pub sampled-none : count_of w ≡ 0 → Ok flat ≡ sampled luma chroma w direction D
  unfolding is_small params_of
  sampled-none z =
      sampled-done flat (none-readable D (most D) direction luma chroma w z) (ap is_small (none-summed D (most D) direction luma chroma w z))
      (sym (ap (λ n. params_of D n (sums_of D direction luma chroma w)) z))
