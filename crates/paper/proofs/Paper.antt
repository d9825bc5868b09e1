-- The definitions give the paper's numbers: one claim over the whole list. Assumes nothing.
use mathlib.Core.Path.{◌≡◌, refl}
use lib.Count.{count_trailing_zeros, count_leading_zeros}
use lib.Ieee.{of_bits, add, to_unsigned}
use Rattle.lists.specs.Fill.{tab}
use Rattle.samples.specs.Sample.{reading}
use Rattle.edge_line.specs.Along.{along}
use Rattle.block_spec.specs.Behind.{above_behind, left_behind, corner_behind}
use Rattle.paeth.specs.Paeth.{paeth}
use Rattle.smooth_weights.specs.Weights.{log2, scale, weight}
use Rattle.smooth_spec.specs.Smooth.{blend}
use Rattle.taps.specs.Interp.{clip, taps2, between}
use Rattle.edge_filter.specs.Filter.{edge, filtered}
use Rattle.strength.specs.Strength.{strength}
use Rattle.setting.specs.Setting.{strength_above, strength_left}
use Rattle.strength.specs.Corner.{filtered_corner}
use Rattle.zone_spec.specs.Zones.{sample_along, zone2}
use Rattle.directional.specs.Directional.{is_down, is_across}
use Rattle.fixed_product.specs.Product.{ilog2, digits, over, narrow, rounded, mul_fixed}
use Rattle.reciprocal.specs.Division.{curve, moved, fraction, scale_of}
use Rattle.paper.specs.Paper.{worked_out, paper}

pub as-on-paper : worked_out ≡ paper
unfolding worked_out paper paeth blend log2 scale weight count_trailing_zeros tab reading of_bits add to_unsigned above_behind left_behind corner_behind along is_down is_across sample_along zone2 filtered strength_above strength_left strength edge filtered_corner between clip taps2 mul_fixed rounded narrow over digits ilog2 count_leading_zeros scale_of curve fraction moved
as-on-paper = refl
