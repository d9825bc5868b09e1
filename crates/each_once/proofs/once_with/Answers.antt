-- `once_with` meets its contract: so many entries are passed, which are below n and differ, and their flags are set. Assumes nothing.
use mathlib.Core.Path.{◌≡◌, refl, sym, ◌∙◌, ap}
use native.Mathlib.Omega.{arith}
use lib.ListN.{length, length-replicate}
use mathlib.Core.Bool.{false}
use Rattle.reorder.proofs.Test.{fails}
use Rattle.reorder.proofs.Once.{fresh-none, once-of-passed, not-once-high, not-once-twice}
use Rattle.reorder.proofs.Check.{once-decides}
use Rattle.each_once.proofs.Seen.{seen_none}
use Rattle.each_once.proofs.once_with.Goals.{then-n-x-via-then-n-x, then-n-x-via-else-n-x+then-seen-x}
use Rattle.each_once.proofs.once_with.Goals as goal

pub loop-entry-init : goal.loop-entry-init
loop-entry-init c = (ap length c.requires.1 ∙ length-replicate 1024 false, fresh-none _ _, rw c.requires.1 (seen_none 1024 _))

pub returns-then-n-x : goal.returns-then-n-x
returns-then-n-x c =
    let k = c.loop-entry in
    sym ((fails _ _ (once-decides _ _)).1 (elim c.then-n-x.branch [
      | then-n-x-via-then-n-x w ↦ not-once-high _ k.entry-index _ (omega arith) w.if-n-x.true
      | then-n-x-via-else-n-x+then-seen-x w ↦ let t = k.invariant.2.stood _ w.if-seen-x.true in not-once-twice _ t.0 k.entry-index _ t.1 (omega arith) t.2
    ]))

pub returns : goal.returns
returns c =
    let end : c.loop-entry.entry-index ≡ length c.args.order.now = omega arith in
    sym ((once-decides _ _).1 (once-of-passed _ _ refl (rw end at c.loop-entry.invariant.1)))
