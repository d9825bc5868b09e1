-- What stands behind an entry, by its place in the plane's list.
use Rattle.std.specs.Prelude.{Bool, true, List, ℕ, ◌+◌, ◌*◌, ◌<◌, ℤ, pos, Float, get_or}
use Rattle.std.specs.Float.{nan}
use Rattle.samples.specs.Sample.{is_sample, reading, Readable}
use Rattle.sides.specs.declared.Spot.{Spot}
use Rattle.sides.specs.declared.Spot.TheVariants.{Sample, Number}
use Rattle.block_spec.specs.Behind.{Behind, place, number}

-- a row and a column of a plane whose rows have W samples
abbrev pub spot_of : ℕ → Behind → Spot
spot_of W (place r c) = Sample (r * W + c)
spot_of W (number z) = Number z

-- the number that an entry is: its sample as it reads, or the number itself
abbrev pub spot_value : List Float → Spot → ℤ
spot_value plane (Sample p) = pos (reading (get_or plane p nan))
spot_value plane (Number z) = z

-- a number in 0..m, if it is a sample at all
abbrev pub spot_in_range : ℤ → List Float → Spot → Bool
spot_in_range m plane (Sample p) = is_sample m (get_or plane p nan)
spot_in_range m plane (Number z) = true

-- its sample lies in a plane of `size` samples, and can be read
abbrev pub SpotLies : ℕ → Spot → Type 0
SpotLies size (Sample p) = p < size
SpotLies size (Number z) = Unit

abbrev pub SpotReadable : List Float → Spot → Type 0
SpotReadable plane (Sample p) = Readable (get_or plane p nan)
SpotReadable plane (Number z) = Unit
