-- A call that is not refused keeps every rule. Assumes nothing.
use mathlib.Core.Path.{◌≡◌}
use mathlib.Core.List.{List}
use Prim.Native.Nat.{ℕ}
use lib.IntN.{ℤ}
use lib.ListN.{length}
use borrow.Author.Tests.{leb-true}
use Rattle.numbers.specs.Answer.{done}
use Rattle.refusals.proofs.Ladder.{all-kept}
use Rattle.colour_rules.specs.Rules.{predict_rules, predict_answer}
use Rattle.colour_rules.specs.declared.block.Block.{Block}
use Rattle.colour_rules.proofs.Granted.{placed}
use Rattle.colour_block.specs.Accepted.{BlockAccepted}

pub accepted : (luma : List ℤ) (b : Block) (n : ℕ) → predict_answer luma b n ≡ done → BlockAccepted luma b n
unfolding predict_answer
accepted luma b n e =
    let all = all-kept (predict_rules luma b n) e in
    record {
      depth = all.0;
      colour = all.1.0;
      place = placed b (length luma) all.1.1.0 all.1.1.1.0 all.1.1.1.1.0 all.1.1.1.1.1.0;
      long = leb-true _ _ all.1.1.1.1.1.1.0;
      read = all.1.1.1.1.1.1.1.0;
    }
