-- What a format's numbers must be: its rows, at least one, and of at least one word, fill a block; its blocks hold every plan, and are at most 1,024.
-- That those of requests (iv) and (v) are so is shown in proofs/Fits.
use Rattle.std.specs.Prelude.{◌≡◌, ◌+◌, ◌*◌, ◌<◌, ◌≤◌}
use Rattle.numbers.specs.Limits.{most_jobs}
use Rattle.block_image.specs.declared.format.Format.{Format}

pub record Fits (F : Format) : Type 0 where
  pub fills : 8 + F.zeros + 2 * (F.rows * F.words) ≡ 508
  pub some-rows : 0 < F.rows
  pub some_words : 0 < F.words
  pub reach : most_jobs ≤ F.most * F.rows
  pub few : F.most ≤ 1024
