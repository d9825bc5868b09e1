-- `predict_into` meets its contract: each mode is the job's predictor. Assumes nothing.
use mathlib.Core.Path.{◌≡◌, ◌∙◌, ap}
use native.Mathlib.Omega.{arith}
use mir.Syntax.{w32}
use mir.Val.{to_z, of_z}
use mir.Facts.{to_z-of_z}
use Rattle.signed.proofs.Bound.{back-abs}
use Rattle.directional.specs.Words.{turned_by}
use Rattle.row_words.specs.declared.mode.Mode.TheVariants.{Paeth, Smooth, SmoothV, SmoothH}
use Rattle.lists.specs.Block.{block}
use Rattle.paeth.specs.Paeth.{paeth_at}
use Rattle.modes.proofs.Modes.{paeth-asks, smooth-asks, turned-asks, block-is}
use Rattle.modes.proofs.predict_into.Goals as goal

pub paeth_into-requires : goal.paeth_into-requires
paeth_into-requires c = simp (to_z-of_z, c.ranges.corner) (paeth-asks c.requires)

pub smooth_into-requires : goal.smooth_into-requires
smooth_into-requires c = smooth-asks c.requires

pub smooth_v_into-requires : goal.smooth_v_into-requires
smooth_v_into-requires c = smooth-asks c.requires

pub smooth_h_into-requires : goal.smooth_h_into-requires
smooth_h_into-requires c = smooth-asks c.requires

pub turned_into-requires : goal.turned_into-requires
turned_into-requires c =
    let asks = turned-asks c.requires c.in-Directional.dir c.in-Directional.delta c.in-Directional.is in
    let delta-back : to_z w32 (of_z w32 c.in-Directional.delta) ≡ c.in-Directional.delta = back-abs w32 c.in-Directional.delta (omega (arith, asks.1)) in
    simp (delta-back, to_z-of_z, c.ranges.corner) asks

pub returns-in-Paeth : goal.returns-in-Paeth
returns-in-Paeth c =
    let B = c.args.job.spec.b in
    block-is c.args.job Paeth _ _ _ _ _ c.in-Paeth.is (c.paeth_into.ensures ∙ ap (λ k. block B B (paeth_at B c.args.above.now c.args.left.now k) c.args.out.now) (to_z-of_z c.ranges.corner))

pub returns-in-Smooth : goal.returns-in-Smooth
returns-in-Smooth c = block-is c.args.job Smooth _ _ _ _ _ c.in-Smooth.is c.smooth_into.ensures

pub returns-in-SmoothV : goal.returns-in-SmoothV
returns-in-SmoothV c = block-is c.args.job SmoothV _ _ _ _ _ c.in-SmoothV.is c.smooth_v_into.ensures

pub returns-in-SmoothH : goal.returns-in-SmoothH
returns-in-SmoothH c = block-is c.args.job SmoothH _ _ _ _ _ c.in-SmoothH.is c.smooth_h_into.ensures

pub returns-in-Directional : goal.returns-in-Directional
returns-in-Directional c =
    let job = c.args.job in
    let B = job.spec.b in
    let asks = turned-asks c.requires c.in-Directional.dir c.in-Directional.delta c.in-Directional.is in
    let delta-back : to_z w32 (of_z w32 c.in-Directional.delta) ≡ c.in-Directional.delta = back-abs w32 c.in-Directional.delta (omega (arith, asks.1)) in
    block-is job _ _ _ _ _ _ c.in-Directional.is
    (c.turned_into.ensures
    ∙ (λ j. block B B (turned_by job.spec.d c.in-Directional.dir (delta-back j) job.flags job.max_width job.max_height B c.args.above.now c.args.left.now (to_z-of_z c.ranges.corner j)) c.args.out.now))
