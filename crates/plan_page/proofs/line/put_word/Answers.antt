-- `put_word` meets its contract. Assumes nothing.
use Rattle.plan_page.proofs.Texts.{put_then}
use Rattle.plan_page.proofs.line.put_word.Goals as goal

pub returns : goal.returns
returns c = let n = c.before.before in put_then n.put_byte-end.ensures n.put_number.ensures
