-- `up_at` meets its contract. Assumes nothing.
use borrow.Author.Tests.{lt-ltb, le-ltb}
use mathlib.Core.Path.{◌≡◌, refl, ◌∙◌, ap, subst}
use mathlib.Core.Bool.{Bool, true, false, cond, ◌&&◌}
use Prim.Native.Nat.{ℕ, ◌≤◌, ◌<◌}
use lib.Dec.{ltb}
use Rattle.numbers.specs.Colour.{the_colour, rows_up}
use Rattle.colour_block.specs.Lines.{up_at}
use Rattle.colour_block.proofs.block.up_at.Goals as goal
use Rattle.colour_block.proofs.block.up_at.Lts as lts
use Rattle.colour_block.proofs.block.up_at.Reads as reads
use Rattle.colour_block.proofs.block.up_at.Tie as tie

abbrev At-Start : Type 0
At-Start = lts.Start tie.the-claims reads.Pre reads.Post

abbrev At-After-rows_up-up : Type 0
At-After-rows_up-up = lts.After-rows_up tie.the-claims reads.Pre reads.Post

-- how many the direction takes
module _ (c : At-After-rows_up-up) where
  abbrev s : At-Start
  s = c.before.before

  abbrev rows : ℕ
  rows = rows_up (the_colour s.args.b.direction)

  rows= : c.rows_up-up.result ≡ rows
  rows= = c.rows_up-up.ensures ∙ ap rows_up c.colour.ensures

there : (x : Bool) (n : ℕ) → n ≡ cond (x && false) 0 n
there true n = refl
there false n = refl

pub returns-then-b : goal.returns-then-b
unfolding up_at
returns-then-b c = let r = c.before in rows= r ∙ simp c.if-b.true (there (ltb (s r).args.j (rows r)) (rows r))

pub returns-then-j-up : goal.returns-then-j-up
unfolding up_at
returns-then-j-up c =
    let r = c.before.before in
    simp (lt-ltb (s r).args.j (rows r) (subst (λ n. (s r).args.j < n) (rows= r) c.if-j-up.true), c.if-b.false)

pub returns-else-j-up : goal.returns-else-j-up
unfolding up_at
returns-else-j-up c =
    let r = c.before.before in
    rows= r ∙ simp (le-ltb (s r).args.j (rows r) (subst (λ n. n ≤ (s r).args.j) (rows= r) c.if-j-up.false))
