-- `Flag::is_in` meets its contract: the last bit of the word that is moved down by the flag's bit. Assumes nothing.
use native.Mathlib.Omega.{arith}
use mathlib.Core.Path.{◌∙◌, ap}
use Prim.Native.Nat.{◌<◌, ◌/◌, ◌^◌}
use lib.Bits.{bit_and, and_mask}
use lib.Dec.{eqb}
use Rattle.row_words.specs.Flag.{flag_bit, is_set}
use Rattle.row_words.specs.declared.flag.Flag.{Flag}
use Rattle.row_words.specs.declared.flag.Flag.TheVariants.{Above, Left, Luma, EdgeFilter, SmoothNeighbour}
use Rattle.row_words.proofs.flag.Flag.is_in.Goals as goal

-- a word has sixteen bits
low : (f : Flag) → flag_bit f < 16
low Above = omega arith
low Left = omega arith
low Luma = omega arith
low EdgeFilter = omega arith
low SmoothNeighbour = omega arith

pub overflow_cast-result : goal.overflow_cast-result
overflow_cast-result c = omega (arith, c.bit.ensures, low c.args.self)

pub overflow_shr-result : goal.overflow_shr-result
overflow_shr-result c = omega (arith, c.bit.ensures, low c.args.self)

pub returns : goal.returns
unfolding is_set
returns c =
    let s = c.before in
    ap (λ n. eqb (bit_and (s.args.word / 2 ^ n) 1) 1) c.bit.ensures
    ∙ ap (λ n. eqb n 1) (and_mask (s.args.word / 2 ^ flag_bit s.args.self) 1)
