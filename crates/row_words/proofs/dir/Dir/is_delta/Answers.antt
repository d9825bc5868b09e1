-- `Dir::is_delta` meets its contract. Assumes nothing.
use native.Mathlib.Omega.{arith}
use mir.Syntax.{w32}
use Rattle.signed.proofs.Bound.{back-pos}
use Rattle.row_words.specs.Dir.{is_delta}
use Rattle.row_words.proofs.dir.Dir.is_delta.Goals as goal

pub returns : goal.returns
unfolding is_delta
returns c = rw (back-pos w32 c.args.word (omega arith))
