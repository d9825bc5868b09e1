-- `middle` meets its contract: 128, 512 and 2048. Assumes nothing.
use mathlib.Core.Path.{sym, ap}
use lib.IntN.{pos}
use Rattle.numbers.specs.Depth.{bits_of}
use Rattle.colour_terms.specs.Terms as terms
use Rattle.colour_terms.proofs.middle.Goals as goal

pub returns-in-Eight : goal.returns-in-Eight
returns-in-Eight c = ap (λ d. pos (terms.middle (bits_of d))) (sym c.in-Eight.is)

pub returns-in-Ten : goal.returns-in-Ten
returns-in-Ten c = ap (λ d. pos (terms.middle (bits_of d))) (sym c.in-Ten.is)

pub returns-in-Twelve : goal.returns-in-Twelve
returns-in-Twelve c = ap (λ d. pos (terms.middle (bits_of d))) (sym c.in-Twelve.is)
