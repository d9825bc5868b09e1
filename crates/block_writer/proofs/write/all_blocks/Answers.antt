-- `all_blocks` meets its contract. The invariant: the first k blocks are written. Assumes nothing.
use mathlib.Core.Path.{◌≡◌, sym, ◌∙◌, ap}
use Prim.Native.Nat.{◌+◌, ◌*◌, ◌/◌, ◌%◌}
use native.Mathlib.Omega.{arith}
use Rattle.lists.specs.Fill.{filled}
use Rattle.lists.proofs.Fill.{filled_none, filled-part}
use Rattle.block_image.specs.Image.{block_byte, image_byte}
use Rattle.block_writer.proofs.write.all_blocks.Goals as goal

pub loop-k-init : goal.loop-k-init
loop-k-init c = sym (filled_none _ _)

pub loop-k-preserved : goal.loop-k-preserved
loop-k-preserved c =
    let a = c.args in
    let k = c.loop-k.k in
    let next : 512 * k + 512 ≡ 512 * (k + 1) = omega arith in
    filled-part (512 * k) (512 * k + 512) (image_byte a.f a.plan.now) (block_byte a.f a.plan.now k) _ _ _ (omega arith) (omega arith)
    c.loop-k.invariant c.one_block.ensures
    (λ b h. let q : k ≡ (512 * k + b) / 512 = omega arith in let r : b ≡ (512 * k + b) % 512 = omega arith in λ j. block_byte a.f a.plan.now (q j) (r j))
    ∙ ap (λ n. filled n (image_byte a.f a.plan.now) a.out.now) next
