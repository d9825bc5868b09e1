-- `fill_four` meets its contract. Assumes nothing.
use native.Mathlib.Omega.{arith}
use Rattle.lists.proofs.Block.{four-stores}
use Rattle.rows.proofs.fill_four.Goals as goal

pub returns : goal.returns
returns g c = λ p h.
    four-stores p _ _ _ _ _ c.requires.four
    (h 0 _ (omega arith) c.f-x.ensures)
    (h 1 _ (omega arith) c.f-y.ensures)
    (h 2 _ (omega arith) c.f-z.ensures)
    (h 3 _ (omega arith) c.f-u.ensures)
