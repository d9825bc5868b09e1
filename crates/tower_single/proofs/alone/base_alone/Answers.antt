-- `base_alone` meets its contract: the job is done on the plane that its number names. Assumes nothing.
use mathlib.Core.Path.{sym, subst}
use native.Mathlib.Omega.{arith}
use lib.ListN.{length}
use Rattle.job_work.specs.Granted.{Tested, read_answer, read_done}
use Rattle.tower_work.proofs.Onto.{onto-0, onto-1, onto-2}
use Rattle.tower_single.proofs.alone.base_alone.Goals as goal

pub returns-then-k-eq0 : goal.returns-then-k-eq0
returns-then-k-eq0 c =
    let t = c.args in
    onto-0 _ _ _ _ (read_answer t.width t.job) (read_done t.width t.differences.now t.job) _ _ c.if-k-eq0.true c.alone.ensures

pub alone-requires-then-k-eq1 : goal.alone-requires-then-k-eq1
alone-requires-then-k-eq1 c =
    subst (λ n. Tested c.args.width (length c.args.differences.now) n c.args.job) (sym c.requires.0.second) c.requires.1

pub returns-then-k-eq1 : goal.returns-then-k-eq1
returns-then-k-eq1 c =
    let t = c.args in
    onto-1 _ _ _ _ (read_answer t.width t.job) (read_done t.width t.differences.now t.job) _ _ c.if-k-eq1.true c.alone-then-k-eq1.ensures

pub alone-requires-2 : goal.alone-requires-2
alone-requires-2 c =
    subst (λ n. Tested c.args.width (length c.args.differences.now) n c.args.job) (sym c.requires.0.third) c.requires.1

pub returns : goal.returns
returns c =
    let t = c.args in
    onto-2 _ _ _ _ (read_answer t.width t.job) (read_done t.width t.differences.now t.job) _ _
    (omega (arith, c.requires.0.known, c.if-k-eq0.false, c.if-k-eq1.false)) c.alone-2.ensures
