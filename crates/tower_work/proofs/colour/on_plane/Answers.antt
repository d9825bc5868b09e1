-- `on_plane` meets its contract: luma is plane 0's, chroma the job's own plane's. Assumes nothing.
use native.Mathlib.Omega.{arith}
use Rattle.planes.specs.Three.{plane_in}
use Rattle.colour_job.specs.Answer.{colour_answer}
use Rattle.colour_job.specs.Done.{colour_done}
use Rattle.tower_work.proofs.Onto.{onto-1, onto-2}
use Rattle.tower_work.proofs.colour.on_plane.Goals as goal

pub returns-then-k-eq1 : goal.returns-then-k-eq1
unfolding plane_in
returns-then-k-eq1 c =
    let t = c.args in
    onto-1 _ _ _ _ (colour_answer t.width t.c t.p0.now) (colour_done t.width t.c t.p0.now) _ _ c.if-k-eq1.true c.do_colour.ensures

pub returns : goal.returns
unfolding plane_in
returns c =
    let t = c.args in
    onto-2 _ _ _ _ (colour_answer t.width t.c t.p0.now) (colour_done t.width t.c t.p0.now) _ _
    (omega (arith, c.requires.one_plane.0.known, c.requires.one_plane.1, c.if-k-eq1.false)) c.do_colour-2.ensures
