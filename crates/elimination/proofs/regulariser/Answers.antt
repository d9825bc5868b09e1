-- `regulariser` meets its contract: 2, 8 and 32. Assumes nothing.
use mathlib.Core.Path.{sym, ap}
use native.Mathlib.Omega.{arith}
use lib.IntN.{pos}
use Rattle.numbers.specs.Depth.{bits_of}
use Rattle.elimination.specs.Elimination.{regular}
use Rattle.elimination.proofs.regulariser.Goals as goal

pub returns-in-Eight : goal.returns-in-Eight
returns-in-Eight c = (ap (λ d. pos (regular (bits_of d))) (sym c.in-Eight.is), omega arith)

pub returns-in-Ten : goal.returns-in-Ten
returns-in-Ten c = (ap (λ d. pos (regular (bits_of d))) (sym c.in-Ten.is), omega arith)

pub returns-in-Twelve : goal.returns-in-Twelve
returns-in-Twelve c = (ap (λ d. pos (regular (bits_of d))) (sym c.in-Twelve.is), omega arith)
