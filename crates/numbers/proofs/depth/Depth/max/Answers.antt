-- `Depth::max` meets its contract: M of each depth. Assumes nothing.
use mathlib.Core.Path.{sym, ap}
use lib.IntN.{pos}
use Rattle.numbers.specs.Depth.{bits_of, most}
use Rattle.numbers.proofs.depth.Depth.max.Goals as goal

pub returns-in-Eight : goal.returns-in-Eight
returns-in-Eight c = ap (λ d. pos (most (bits_of d))) (sym c.in-Eight.is)

pub returns-in-Ten : goal.returns-in-Ten
returns-in-Ten c = ap (λ d. pos (most (bits_of d))) (sym c.in-Ten.is)

pub returns-in-Twelve : goal.returns-in-Twelve
returns-in-Twelve c = ap (λ d. pos (most (bits_of d))) (sym c.in-Twelve.is)
