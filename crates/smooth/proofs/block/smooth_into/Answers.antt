-- `smooth_into` meets its contract: what its rows work out are the definition's samples. Assumes nothing.
use mathlib.Core.Path.{◌∙◌}
use lib.IntN.{pos, ◌+ℤ◌}
use Rattle.lists.proofs.Block.{block_same}
use Rattle.direct_calls.proofs.Accepted.{size-most}
use Rattle.smooth_spec.specs.Smooth.{shr}
use Rattle.smooth.proofs.Ready.{above-entries, left-entries, first-half, end-there, end-in, end_step, scale-low, weights-are, place}
use Rattle.smooth.proofs.block.smooth_into.Goals as goal

pub weights_of-weights-requires : goal.weights_of-weights-requires
weights_of-weights-requires c = scale-low c.args.bs c.requires.size c.scale_of-s.ensures

pub reach_of-reach-requires : goal.reach_of-reach-requires
reach_of-reach-requires c = scale-low c.args.bs c.requires.size c.scale_of-s.ensures

pub bounds-left-bs : goal.bounds-left-bs
bounds-left-bs c = end-there c.args.bs c.requires.size (left-entries c.requires)

pub natural-e-requires : goal.natural-e-requires
natural-e-requires c = end-in c.args.bs c.requires.size (left-entries c.requires)

pub bounds-above-bs : goal.bounds-above-bs
bounds-above-bs c = end-there c.args.bs c.requires.size (above-entries c.requires)

pub natural-f-requires : goal.natural-f-requires
natural-f-requires c = end-in c.args.bs c.requires.size (above-entries c.requires)

pub smooth_rows-requires : goal.smooth_rows-requires
smooth_rows-requires c =
    let B = c.args.bs in
    let g = c.requires in
    let z = g.size in record {
      entries = (
        first-half B z (above-entries g),
        end_step B z (left-entries g) c.natural-e.ensures c.log2_of.ensures,
        first-half B z (left-entries g),
        end_step B z (above-entries g) c.natural-f.ensures c.log2_of.ensures,
        size-most B z,
        g.out-long,
      );
      weights = weights-are B z c.scale_of-s.ensures c.weights_of-weights.ensures c.reach_of-reach.ensures;
    }

pub returns : goal.returns
returns c =
    let B = c.args.bs in
    let g = c.requires in
    let es = c.scale_of-s.ensures in
    let ew = c.weights_of-weights.ensures in
    c.smooth_rows.ensures
    ∙ block_same B B _ _ c.args.out.now
    (λ r i hr hi.
    let v = place B g.size es ew (above-entries g) (left-entries g) c.natural-e.ensures i r hi hr in
    let h = place B g.size es ew (left-entries g) (above-entries g) c.natural-f.ensures r i hr hi in
    λ j. shr (v j +ℤ h j +ℤ pos 1) 1)
