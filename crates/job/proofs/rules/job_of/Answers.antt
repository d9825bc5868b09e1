-- `job_of` meets its contract. Assumes nothing.
use mathlib.Core.Path.{◌∙◌, ap}
use Rattle.row_words.specs.Flag.{flags_of}
use Rattle.job.proofs.rules.job_of.Goals as goal

pub returns : goal.returns
returns c =
    λ j. record {
      spec = c.args.spec;
      mode = c.args.mode;
      flags = (c.of.ensures ∙ ap flags_of c.word.ensures) j;
      max_width = c.word-2.ensures j;
      max_height = c.word-3.ensures j;
      start = c.start_of.ensures.0 j;
    }
