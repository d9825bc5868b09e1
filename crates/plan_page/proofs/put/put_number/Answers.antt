-- `put_number` meets its contract: the digits of `io::decimal` are the number's. Assumes nothing.
use mathlib.Core.Path.{◌≡◌, refl, ◌∙◌}
use Prim.Native.Nat.{◌≤◌}
use native.Mathlib.Omega.{arith}
use lib.ListN.{length, take}
use Rattle.plan_page.specs.Page.{decimal}
use Rattle.plan_page.proofs.Texts.{put_as}
use Rattle.plan_page.proofs.Digits.{decimal-is, decimal-few}
use Rattle.plan_page.proofs.put.put_number.Goals as goal
use Rattle.plan_page.proofs.put.put_number.Lts as lts
use Rattle.plan_page.proofs.put.put_number.Reads as reads
use Rattle.plan_page.proofs.put.put_number.Tie as tie

abbrev At-After-decimal-k : Type 0
At-After-decimal-k = lts.After-decimal tie.the-claims reads.Pre reads.Post tie.handed_clauses

abbrev At-Start : Type 0
At-Start = lts.Start tie.the-claims reads.Pre reads.Post tie.handed_clauses

-- the digits that are lent
module _ (c : At-After-decimal-k) where
  abbrev s : At-Start
  s = c.before.before.before

  digits_are : take c.decimal-k.result c.decimal-k.new.out ≡ decimal s.args.n
  digits_are = c.decimal-k.ensures.digits ∙ decimal-is s.args.n c.decimal-k.result s.requires.0 c.decimal-k.ensures.len

  few : length (take c.decimal-k.result c.decimal-k.new.out) ≤ 5
  few = rw digits_are (decimal-few s.args.n)

pub put_text-requires : goal.put_text-requires
put_text-requires c = let d = c.before.before in omega (arith, few d, (s d).requires.1)

pub returns : goal.returns
returns c = let p = c.before.before in put_as (digits_are p.before.before.before.before) refl p.put_text.ensures
