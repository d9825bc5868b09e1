-- Predictions lie in 0..M where the edges do, in every mode, with B and D open. Assumes nothing.
use mathlib.Core.Path.{◌≡◌}
use mathlib.Core.Bool.{true}
use mathlib.Core.List.{List}
use Prim.Native.Nat.{ℕ, ◌<◌}
use native.Mathlib.Omega.{arith}
use lib.IntN.{ℤ, pos, nat_abs}
use Rattle.numbers.specs.Depth.{most}
use Rattle.row_words.specs.Dir.{angle_of}
use Rattle.row_words.specs.declared.mode.Mode.{Mode}
use Rattle.row_words.specs.declared.mode.Mode.TheVariants.{Paeth, Smooth, SmoothV, SmoothH, Directional}
use Rattle.signed.specs.Range.{inside}
use Rattle.direct_calls.specs.Given.{Given}
use Rattle.directional.specs.Words.{setting_of}
use Rattle.directional.proofs.Inside.{directional-inside}
use Rattle.paeth.proofs.Laws.{paeth-inside}
use Rattle.smooth_spec.proofs.Laws.{smooth_v-inside, smooth_h-inside, smooth-inside}
use Rattle.job.specs.declared.job.Job.{Job}
use Rattle.modes.specs.Predictor.{predictor_by, predictor_of}

module _ (job : Job) (above left : List ℤ) (k : ℤ) where
  abbrev B : ℕ
  B = job.spec.b

  abbrev M : ℕ
  M = most job.spec.d

  pub predicted-inside : {n : ℕ} → Given B M above left k n → (r c : ℕ) → r < B → c < B → inside (pos M) (predictor_of job B above left k r c) ≡ true
  unfolding predictor_of
  predicted-inside g r c hr hc = by job.mode
    where
      by : (mode : Mode) → inside (pos M) (predictor_by mode job B above left k r c) ≡ true
      by Paeth = paeth-inside M _ _ k (g.left_in r (omega arith)) (g.above_in c (omega arith)) g.corner-in
      by Smooth = smooth-inside B M above left k r c g.size g.above_in g.left_in hr hc
      by SmoothV = smooth_v-inside B M above left k r c g.size g.above_in g.left_in hr hc
      by SmoothH = smooth_h-inside B M above left k r c g.size g.above_in g.left_in hr hc
      by (Directional dir delta) =
          directional-inside M B (setting_of B (nat_abs (angle_of dir delta)) job.flags job.max_width job.max_height) above left k
          g.above_in g.left_in g.corner-in r c hr hc
