-- `smooth_h_into` meets its contract: what its rows work out are the definition's samples. Assumes nothing.
use mathlib.Core.Path.{◌∙◌}
use Rattle.lists.proofs.Block.{block_same}
use Rattle.direct_calls.proofs.Accepted.{size-most}
use Rattle.smooth.proofs.Ready.{above-entries, left-entries, first-half, end-there, end-in, end_step, scale-low, weights-are, all-weights, place}
use Rattle.smooth.proofs.block.smooth_h_into.Goals as goal

pub weights_of-weights-requires : goal.weights_of-weights-requires
weights_of-weights-requires c = scale-low c.args.bs c.requires.size c.scale_of-s.ensures

pub reach_of-reach-requires : goal.reach_of-reach-requires
reach_of-reach-requires c = scale-low c.args.bs c.requires.size c.scale_of-s.ensures

pub bounds-above-bs : goal.bounds-above-bs
bounds-above-bs c = end-there c.args.bs c.requires.size (above-entries c.requires)

pub natural-e-requires : goal.natural-e-requires
natural-e-requires c = end-in c.args.bs c.requires.size (above-entries c.requires)

pub quad_h_rows-requires : goal.quad_h_rows-requires
quad_h_rows-requires c =
    let B = c.args.bs in
    let g = c.requires in record {
      bs_value = (
        c.if-bs-eq4.true,
        first-half B g.size (left-entries g),
        end_step B g.size (above-entries g) c.natural-e.ensures c.log2_of-k.ensures,
        g.out-long,
      );
      weights = all-weights B g.size c.scale_of-s.ensures c.weights_of-weights.ensures;
    }

pub lined_h_rows-requires : goal.lined_h_rows-requires
lined_h_rows-requires c =
    let B = c.args.bs in
    let g = c.requires in record {
      entries = (
        first-half B g.size (left-entries g),
        end_step B g.size (above-entries g) c.natural-e.ensures c.log2_of-k.ensures,
        size-most B g.size,
        g.out-long,
      );
      weights = weights-are B g.size c.scale_of-s.ensures c.weights_of-weights.ensures c.reach_of-reach.ensures;
    }

pub returns-then-bs-eq4 : goal.returns-then-bs-eq4
returns-then-bs-eq4 c =
    let B = c.args.bs in
    let g = c.requires in
    let a = c.args in
    c.quad_h_rows.ensures
    ∙ block_same B B _ _ a.out.now
    (λ r i hr hi. place B g.size c.scale_of-s.ensures c.weights_of-weights.ensures (left-entries g) (above-entries g) c.natural-e.ensures r i hr hi)

pub returns-else-bs-eq4 : goal.returns-else-bs-eq4
returns-else-bs-eq4 c =
    let B = c.args.bs in
    let g = c.requires in
    let a = c.args in
    c.lined_h_rows.ensures
    ∙ block_same B B _ _ a.out.now
    (λ r i hr hi. place B g.size c.scale_of-s.ensures c.weights_of-weights.ensures (left-entries g) (above-entries g) c.natural-e.ensures r i hr hi)
