-- `Dir::delta` meets its contract: the word, which is 6 at most, less 3. Assumes nothing.
use native.Mathlib.Omega.{arith}
use mathlib.Core.Path.{◌≡◌}
use Prim.Native.Nat.{◌≤◌}
use lib.IntN.{pos, ◌-ℤ◌}
use mir.Facts.{to_z-of_z}
use mir.Syntax.{w32}
use mir.Val.{SFits, to_z}
use borrow.Author.Tests.{leb-true}
use Rattle.signed.proofs.Bound.{abs-sub, sfits-abs, back-pos}
use Rattle.row_words.specs.Dir.{is_delta, delta_of}
use Rattle.row_words.proofs.dir.Dir.delta.Goals as goal

module _ (c : goal.Start) where
  most : c.args.word ≤ 6
  unfolding is_delta
  most = leb-true _ _ c.requires

  word-is : to_z w32 c.args.word ≡ pos c.args.word
  word-is = back-pos w32 c.args.word (omega (arith, most))

  fits : SFits w32 (pos c.args.word -ℤ pos 3)
  fits = sfits-abs w32 _ (omega (arith, most, abs-sub (pos c.args.word) (pos 3)))

pub overflow_sub-result : goal.overflow_sub-result
overflow_sub-result c = rw (word-is c) (fits c)

pub returns : goal.returns
unfolding delta_of
returns c = rw (word-is c) (to_z-of_z (fits c))
