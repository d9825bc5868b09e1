-- `left_of` meets its contract. Assumes nothing.
use mathlib.Core.Path.{◌∙◌, ap}
use Prim.Native.Nat.{◌+◌, ◌*◌}
use Rattle.sides.proofs.left_of.Goals as goal

pub returns : goal.returns
returns c =
    let s = c.args.s in
    λ j. record {
      there = s.have_left;
      start = (c.place.ensures ∙ ap (λ r. s.y * c.args.width + r) c.before-2.ensures) j;
      stride = c.args.width;
      bs = s.b;
      first = c.least.ensures j;
      end = s.b + c.least-2.ensures j;
    }
