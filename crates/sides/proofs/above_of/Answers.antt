-- `above_of` meets its contract. Assumes nothing.
use mathlib.Core.Path.{◌∙◌, ap}
use Prim.Native.Nat.{◌+◌, ◌*◌}
use Rattle.sides.proofs.Words.{up_fits}
use Rattle.sides.proofs.above_of.Goals as goal

pub place-requires : goal.place-requires
place-requires c = up_fits c.args.width _ _ _ c.before-2.ensures c.requires

pub returns : goal.returns
returns c =
    let s = c.args.s in
    λ j. record {
      there = s.have_above;
      start = (c.place.ensures ∙ ap (λ r. r * c.args.width + s.x) c.before-2.ensures) j;
      stride = 1;
      bs = s.b;
      first = c.least.ensures j;
      end = s.b + c.least-2.ensures j;
    }
