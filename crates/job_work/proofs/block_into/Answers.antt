-- `block_into` meets its contract: the edges are those that the definition names. Assumes nothing.
use borrow.Author.Rules.{sfits_of}
use mathlib.Core.Path.{◌≡◌, ◌∙◌}
use mathlib.Core.List.{List}
use Prim.Native.Nat.{ℕ, ◌<◌}
use lib.Ieee.{Float}
use lib.ListN.{length}
use lib.Signed.{mag}
use lib.IntN.{ℤ}
use mir.Syntax.{w32}
use mir.Val.{to_z, of_z}
use Rattle.signed.proofs.Bound.{back}
use Rattle.block_spec.specs.declared.spec.IntraRefSpec.{IntraRefSpec}
use Rattle.block_spec.specs.Behind.{corner_behind}
use Rattle.job.specs.declared.job.Job.{Job}
use Rattle.sides.specs.Values.{above_of, left_of, value_of}
use Rattle.job_work.specs.Granted.{Granted}
use Rattle.job_work.specs.Written.{above_edge, left_edge, corner_entry}
use Rattle.modes.specs.Ready.{predicted_block}
use Rattle.job_work.proofs.Granted.{above-is, left_is, ready_at}
use Rattle.job_work.proofs.block_into.Goals as goal

-- where the edges and the corner are built
module _ {W n : ℕ} {job : Job} {plane : List Float} (g : Granted W n job plane) where
  is-above : (xs es : List ℤ) → length xs ≡ 128 → es ≡ above_of plane W job.spec xs → es ≡ above_edge W job.spec plane
  is-above xs es l e = e ∙ above-is g xs l

  is-left : (xs es : List ℤ) → length xs ≡ 128 → es ≡ left_of plane W job.spec xs → es ≡ left_edge W job.spec plane
  is-left xs es l e = e ∙ left_is g xs l

is-corner : (W : ℕ) (s : IntraRefSpec) (plane : List Float) (z : ℤ) → mag z < 2147483648 → z ≡ value_of W plane (corner_behind s)
    → to_z w32 (of_z w32 z) ≡ corner_entry W s plane
unfolding corner_entry
is-corner W s plane z fits e = back w32 {z = z} (sfits_of fits) ∙ e

pub predict_into-requires : goal.predict_into-requires
predict_into-requires c =
    let f = c.fill_edges-corner in
    ready_at c.requires.0 _ _ _ _ (is-above c.requires.0 _ _ c.requires.1 f.ensures.0) (is-left c.requires.0 _ _ c.requires.2 f.ensures.1)
    (is-corner c.args.width c.args.job.spec c.args.plane.now f.result f.type_inv f.ensures.2) c.requires.3

pub returns : goal.returns
returns c =
    let f = c.fill_edges-corner in
    let above = is-above c.requires.0 _ _ c.requires.1 f.ensures.0 in
    let left = is-left c.requires.0 _ _ c.requires.2 f.ensures.1 in
    let corner = is-corner c.args.width c.args.job.spec c.args.plane.now f.result f.type_inv f.ensures.2 in
    c.predict_into.ensures ∙ (λ j. predicted_block c.args.job (above j) (left j) (corner j) c.args.out.now)
