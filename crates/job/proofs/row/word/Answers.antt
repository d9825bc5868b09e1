-- `word` meets its contract: a word's place is in the row. Assumes nothing.
use mathlib.Core.Path.{ap}
use native.Mathlib.Omega.{arith}
use lib.ListN.{get_or}
use Rattle.row_words.proofs.Place.{word_below}
use Rattle.job.proofs.row.word.Goals as goal

pub offset_bounds-row-i : goal.offset_bounds-row-i
offset_bounds-row-i c = omega (arith, c.place-i.ensures, word_below c.args.w)

pub bounds-row-i : goal.bounds-row-i
bounds-row-i c = omega (arith, c.place-i.ensures, word_below c.args.w, c.requires)

pub returns : goal.returns
returns c = ap (λ i. get_or c.args.row.now i 0) c.place-i.ensures
