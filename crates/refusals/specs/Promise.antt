-- What a call promises: its answer, and what the memory that it was lent holds afterwards, both by equations.
use Rattle.std.specs.Prelude.{◌≡◌, cond}
use Rattle.numbers.specs.Answer.{is_done, Answer}

-- "A refusal changes nothing lent."
abbrev pub lent : {M : Type 0} → Answer → M → M → M
lent answer done before = cond (is_done answer) done before

-- "Every public function states its result, with all lent memory afterwards, refusals too." r is what the call returned, and after what stands in its memory at the end
pub record Promise {R M : Type 0} (answer : R) (memory : M) (r : R) (after : M) : Type 0 where
  pub answers : r ≡ answer
  pub holds : after ≡ memory
