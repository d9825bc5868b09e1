-- "8 in place of 13, and 14" (document 02, request (v)): a colour job's tests of the samples that it reads, in order, and its answer.
use Rattle.std.specs.Prelude.{Bool, ◌&&◌, List, [], ◌∷◌, ℕ, Float}
use Rattle.numbers.specs.Answer.{Answer}
use Rattle.numbers.specs.Colour.{the_colour}
use Rattle.numbers.specs.declared.answer.Refusal.TheVariants.{BadSample, SumTooLarge}
use Rattle.refusals.specs.Ladder.{Rule, ◌else◌, ladder}
use Rattle.colour_sums.specs.Sum.{sums_of}
use Rattle.colour_solve.specs.Small.{is_small}
use Rattle.colour_words.specs.declared.ColourWords.{ColourWords}
use Rattle.colour_words.specs.Colour.{colour_window}
use Rattle.colour_windows.specs.Windows.{luma_in, chroma_in, luma_read, chroma_read}

-- 14, of the nine sums over both windows
unfoldable pub colour_small : ℕ → ColourWords → List Float → List Float → Bool
colour_small W c luma chroma = is_small (sums_of c.d (the_colour c.direction) (luma_in W c luma) (chroma_in W c chroma) (colour_window c))

-- 8, of the luma window and of the chroma samples that count, and then 14
abbrev pub colour_read_rules : ℕ → ColourWords → List Float → List Float → List Rule
colour_read_rules W c luma chroma =
    (luma_read W c luma && chroma_read W c chroma) else BadSample ∷
    colour_small W c luma chroma else SumTooLarge ∷ []

unfoldable pub colour_answer : ℕ → ColourWords → List Float → List Float → Answer
colour_answer W c luma chroma = ladder (colour_read_rules W c luma chroma)
