-- `smooth_v_into` meets its contract: what its rows work out are the definition's samples. Assumes nothing.
use mathlib.Core.Path.{◌∙◌}
use Rattle.lists.proofs.Block.{block_same}
use Rattle.smooth.proofs.Ready.{above-entries, left-entries, first-half, end-there, end-in, end_step, scale-low, all-weights, place}
use Rattle.smooth.proofs.block.smooth_v_into.Goals as goal

pub weights_of-weights-requires : goal.weights_of-weights-requires
weights_of-weights-requires c =
    let s = c.before.before in
    scale-low s.args.bs s.requires.size c.scale_of.ensures

pub bounds-left-bs : goal.bounds-left-bs
bounds-left-bs c =
    let s = c.before.before.before.before in
    end-there s.args.bs s.requires.size (left-entries s.requires)

pub natural-requires : goal.natural-requires
natural-requires c =
    let s = c.before.before.before.before.before in
    end-in s.args.bs s.requires.size (left-entries s.requires)

pub smooth_v_rows-requires : goal.smooth_v_rows-requires
smooth_v_rows-requires c =
    let n = c.before.before in
    let w = n.before.before.before in
    let s = w.before.before.before in
    let B = s.args.bs in
    let z = s.requires.size in record { entries = (first-half B z (above-entries s.requires), end_step B z (left-entries s.requires) n.natural.ensures n.log2_of.ensures, s.requires.out-long); weights = all-weights B z w.scale_of.ensures w.weights_of-weights.ensures }

pub returns : goal.returns
returns c =
    let m = c.before.before in
    let n = m.before.before.before in
    let w = n.before.before.before in
    let s = w.before.before.before in
    let B = s.args.bs in
    m.smooth_v_rows.ensures
    ∙ block_same B B _ _ s.args.out.now
    (λ r i hr hi. place B s.requires.size w.scale_of.ensures w.weights_of-weights.ensures (above-entries s.requires) (left-entries s.requires) n.natural.ensures i r hi hr)
