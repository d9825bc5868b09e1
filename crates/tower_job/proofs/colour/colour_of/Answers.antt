-- `colour_of` meets its contract, word by word. Assumes nothing.
use lib.Dec.{eqb}
use Rattle.tower_job.proofs.colour.colour_of.Goals as goal

pub returns : goal.returns
returns c = λ j. record {
  x = c.base_word.ensures j;
  y = c.base_word-2.ensures j;
  d = c.base_word-3.ensures j;
  direction = c.word.ensures j;
  above_lines = c.word-2.ensures j;
  left_lines = c.word-3.ensures j;
  ref_width = c.word-4.ensures j;
  ref_height = c.word-5.ensures j;
  width = c.word-6.ensures j;
  height = c.word-7.ensures j;
  luma_x = c.word-8.ensures j;
  luma_y = c.word-9.ensures j;
  have_top = eqb (c.word-10.ensures j) 1;
  have_left = eqb (c.word-11.ensures j) 1;
}
