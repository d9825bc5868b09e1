-- `made_check` meets its contract: zeros add nothing. Assumes nothing.
use mathlib.Core.Path.{◌≡◌, ◌∙◌, ap}
use Prim.Native.Nat.{ℕ, ◌+◌, ◌-◌, ◌%◌, ◌^◌, ◌≤◌, ◌<◌}
use native.Mathlib.Omega.{arith}
use Rattle.block_image.specs.Rules.{bytes_from}
use Rattle.block_image.proofs.Sum.{sum_zeros}
use Rattle.block_image.proofs.Zeros.{zero-at}
use Rattle.block_writer.proofs.make.made_check.Goals as goal
use Rattle.block_writer.proofs.make.made_check.Lts as lts
use Rattle.block_writer.proofs.make.made_check.Reads as reads
use Rattle.block_writer.proofs.make.made_check.Tie as tie

abbrev At-Start : Type 0
At-Start = lts.Start tie.the-claims reads.Pre reads.Post

module _ (s : At-Start) where
  abbrev at : ℕ → ℕ
  at = bytes_from s.args.part.now 0

  past : (b : ℕ) → s.args.end ≤ b → b < 508 → at b ≡ 0
  past b h l = let z : b ≡ s.args.end + (b - s.args.end) = omega arith in ap at z ∙ zero-at at s.args.end _ s.requires.2 _ (omega arith)

pub returns-then-end-lt508 : goal.returns-then-end-lt508
returns-then-end-lt508 c =
    let s = c.before.before.before.before in
    c.sum_of.ensures ∙ ap (λ (x : ℕ). x % 2 ^ 32) (sum_zeros (at s) _ 127 (omega arith) (λ b h l. past s b (omega arith) l))
