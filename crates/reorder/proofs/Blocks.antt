-- Whoever has the laws by blocks, as document 01 puts them, has the laws that the reordering needs. Assumes nothing.
use mathlib.Core.Path.{sym, ◌∙◌}
use Rattle.reorder.specs.Jobs.{Jobs, Laws, BlockLaws}

pub laws : (J : Jobs) (Done : J.Answer → Type 0) → BlockLaws J Done → Laws J
laws J Done B = record {
  ext = B.ext;
  fits = B.fits;
  writes? = B.writes?;
  frame = B.frame;
  answer-local = B.answer-local;
  step_local = λ j s t fs ft ag p e. elim (B.done? (J.answer j s)) [
    | yes d ↦ elim (B.writes? j p) [
      | yes w ↦ B.same_block j s t fs ft ag d p w
      | no nw ↦ B.frame j s fs p nw ∙ e ∙ sym (B.frame j t ft p nw)
    ]
    | no nd ↦ rw (B.refused j s fs nd, B.refused j t ft (rw (B.answer-local j s t fs ft ag) at nd)) e
  ];
}
