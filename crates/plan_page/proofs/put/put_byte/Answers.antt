-- `put_byte` meets its contract. Assumes nothing.
use native.Mathlib.Omega.{arith}
use Rattle.plan_page.proofs.Texts.{put_one}
use Rattle.plan_page.proofs.put.put_byte.Goals as goal

pub returns : goal.returns
returns c = put_one _ _ _ (omega arith)
