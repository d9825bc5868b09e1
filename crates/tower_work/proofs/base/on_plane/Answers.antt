-- `on_plane` meets its contract: the job is done on the plane that its number names. Assumes nothing.
use lib.ListN.{length}
use mathlib.Core.Path.{sym, subst}
use native.Mathlib.Omega.{arith}
use Rattle.job_work.specs.Granted.{Tested, read_answer, read_done}
use Rattle.tower_work.proofs.Onto.{onto-0, onto-1, onto-2}
use Rattle.tower_work.proofs.base.on_plane.Goals as goal

pub returns-then-k-eq0 : goal.returns-then-k-eq0
returns-then-k-eq0 c =
    let t = c.args in
    onto-0 _ _ _ _ (read_answer t.width t.job) (read_done t.width t.differences.now t.job) _ _ c.if-k-eq0.true c.do_read.ensures

pub do_read-requires-then-k-eq1 : goal.do_read-requires-then-k-eq1
do_read-requires-then-k-eq1 c =
    record { tested = subst (λ n. Tested c.args.width (length c.args.differences.now) n c.args.job) (sym c.requires.one_plane.0.second) c.requires.one_plane.1; above_len = c.requires.above_len }

pub returns-then-k-eq1 : goal.returns-then-k-eq1
returns-then-k-eq1 c =
    let t = c.args in
    onto-1 _ _ _ _ (read_answer t.width t.job) (read_done t.width t.differences.now t.job) _ _ c.if-k-eq1.true c.do_read-then-k-eq1.ensures

pub do_read-requires-2 : goal.do_read-requires-2
do_read-requires-2 c =
    record { tested = subst (λ n. Tested c.args.width (length c.args.differences.now) n c.args.job) (sym c.requires.one_plane.0.third) c.requires.one_plane.1; above_len = c.requires.above_len }

pub returns : goal.returns
returns c =
    let t = c.args in
    onto-2 _ _ _ _ (read_answer t.width t.job) (read_done t.width t.differences.now t.job) _ _
    (omega (arith, c.requires.one_plane.0.known, c.if-k-eq0.false, c.if-k-eq1.false)) c.do_read-2.ensures
