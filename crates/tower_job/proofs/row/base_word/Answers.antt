-- `base_word` meets its contract: the word is one of the first sixteen. Assumes nothing.
use mathlib.Core.Path.{◌∙◌, sym, ap}
use native.Mathlib.Omega.{arith}
use lib.ListN.{get_or}
use lib.Seq.{get_or-take}
use Rattle.row_words.specs.Word.{word_place}
use Rattle.row_words.proofs.Place.{word_below}
use Rattle.tower_job.proofs.row.base_word.Goals as goal

pub offset_bounds-row-i : goal.offset_bounds-row-i
offset_bounds-row-i c = omega (arith, c.place-i.ensures, word_below c.args.w)

pub bounds-row-i : goal.bounds-row-i
bounds-row-i c = omega (arith, c.place-i.ensures, word_below c.args.w, c.requires)

pub returns : goal.returns
returns c =
    let a = c.args in
    ap (λ i. get_or a.row.now i 0) c.place-i.ensures ∙ sym (get_or-take 16 a.row.now (word_place a.w) 0 (word_below a.w))
