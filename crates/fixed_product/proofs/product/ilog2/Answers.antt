-- `ilog2` meets its contract. Assumes nothing.
use native.Mathlib.Omega.{arith}
use mathlib.Core.Path.{sym, ◌∙◌}
use Rattle.fixed_product.proofs.Shift.{odd, ilog2-by, ilog2-odd}
use Rattle.fixed_product.proofs.product.ilog2.Goals as goal

pub ilog2-requires : goal.ilog2-requires
ilog2-requires c = omega (arith, odd c.args.x)

pub returns : goal.returns
returns c =
    let n = c.ilog2.ensures in
    sym (ilog2-by _ c.ilog2.result n.power_le n.next_power_gt (omega (arith, odd c.args.x, c.ranges.x.fits))) ∙ ilog2-odd c.args.x c.ranges.x.fits
