-- `spec_of` meets its contract, word by word. Assumes nothing.
use mathlib.Core.Path.{◌∙◌, ap}
use Rattle.row_words.specs.Flag.{is_set}
use Rattle.row_words.specs.declared.flag.Flag.TheVariants.{Above, Left}
use Rattle.job.proofs.row.spec_of.Goals as goal

pub returns : goal.returns
returns c = λ j. record {
  x = c.word.ensures j;
  y = c.word-2.ensures j;
  b = c.word-3.ensures j;
  d = c.word-4.ensures j;
  have_above = (c.is_in.ensures ∙ ap (is_set Above) c.word-flags.ensures) j;
  have_left = (c.is_in-2.ensures ∙ ap (is_set Left) c.word-flags.ensures) j;
  top_right = c.word-5.ensures j;
  bottom_left = c.word-6.ensures j;
  available_above = c.word-7.ensures j;
  available_left = c.word-8.ensures j;
  base = c.word-9.ensures j;
}
