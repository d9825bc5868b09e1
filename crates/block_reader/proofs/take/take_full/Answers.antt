-- `take_full` meets its contract. The invariant: the words of the first k blocks are taken. Assumes nothing.
use mathlib.Core.Path.{◌≡◌, sym, ◌∙◌, ap}
use Prim.Native.Nat.{◌+◌, ◌*◌}
use native.Mathlib.Nat.{mul-le-mul_right}
use native.Mathlib.Omega.{arith}
use Rattle.lists.specs.Fill.{filled}
use Rattle.lists.proofs.Fill.{filled_none, filled-part}
use Rattle.block_image.specs.Taken.{word_in}
use Rattle.block_reader.proofs.Words.{word-of-block}
use Rattle.block_reader.proofs.take.take_full.Goals as goal

pub loop-k-init : goal.loop-k-init
loop-k-init c =
    let a = c.args in
    let word = word_in a.area a.lead a.bytes.now in
    let none : 0 * a.area ≡ 0 = omega arith in
    sym (ap (λ n. filled n word a.plan.now) none ∙ filled_none word a.plan.now)

pub loop-k-preserved : goal.loop-k-preserved
loop-k-preserved c =
    let a = c.args in
    let k = c.loop-k.k in
    let word = word_in a.area a.lead a.bytes.now in
    let next : k * a.area + a.area ≡ (k + 1) * a.area = omega arith in
    filled-part (k * a.area) (k * a.area + a.area) word _ _ _ _ (omega arith)
    (omega (arith, mul-le-mul_right {m = k + 1} {n = a.full} a.area (omega arith)))
    c.loop-k.invariant c.take_words.ensures (λ j h. word-of-block a.area a.lead a.bytes.now k j (omega arith))
    ∙ ap (λ n. filled n word a.plan.now) next
