-- `put_refusal` meets its contract. Assumes nothing.
use native.Mathlib.Omega.{arith}
use Rattle.plan_page.proofs.Digits.{decimal-few}
use Rattle.plan_page.proofs.pages.put_refusal.Goals as goal

pub put_byte-requires : goal.put_byte-requires
put_byte-requires c = omega (arith, c.put_number-end.ensures.ends, decimal-few c.number.result)
