-- `word` meets its contract: a word's place is in the row. Assumes nothing.
use mathlib.Core.Path.{ap}
use native.Mathlib.Omega.{arith}
use lib.ListN.{get_or}
use Rattle.tower_words.proofs.Places.{tower-below}
use Rattle.tower_job.proofs.row.word.Goals as goal

pub offset_bounds-row-i : goal.offset_bounds-row-i
offset_bounds-row-i c = omega (arith, c.place-i.ensures, (tower-below c.args.w).1)

pub bounds-row-i : goal.bounds-row-i
bounds-row-i c = omega (arith, c.place-i.ensures, (tower-below c.args.w).1, c.requires)

pub returns : goal.returns
returns c = ap (λ i. get_or c.args.row.now i 0) c.place-i.ensures
