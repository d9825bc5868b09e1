-- `meet` meets its contract: the columns are tried, then the rows. Assumes nothing.
use Rattle.reorder.proofs.Rect.{meet-then, meet-else}
use Rattle.clash.proofs.rect.meet.Goals as goal

pub returns-then-max-min : goal.returns-then-max-min
returns-then-max-min c =
    meet-then _ _ _ _ c.max.ensures c.min.ensures _ _ c.max-then-max-min.ensures c.min-then-max-min.ensures c.if-max-min.true

pub returns-else-max-min : goal.returns-else-max-min
returns-else-max-min c = meet-else _ _ _ _ c.max.ensures c.min.ensures c.if-max-min.false
