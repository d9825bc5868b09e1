-- `sum` meets its contract: three numbers within 2^29 add up within 2^31, and one clip is as good as two. Assumes nothing.
use borrow.Author.Rules.{sfits_of}
use mathlib.Core.Path.{◌∙◌, ap}
use Prim.Native.Nat.{◌^◌}
use lib.IntN.{ℤ, pos, ◌+ℤ◌}
use mir.Syntax.{w32}
use mir.Val.{SFits}
use mir.Facts.{to_z-of_z}
use Rattle.signed.proofs.Bound.{b-abs, b-add, b-fits, back}
use Rattle.colour_row.specs.Sample.{clip_to}
use Rattle.colour_row.proofs.Held.{max=}
use Rattle.colour_row.proofs.Laws.{clip-is}
use Rattle.colour_row.proofs.value.sum.Goals as goal
use Rattle.colour_row.proofs.value.sum.Lts as lts
use Rattle.colour_row.proofs.value.sum.Reads as reads
use Rattle.colour_row.proofs.value.sum.Tie as tie

abbrev At-Start : Type 0
At-Start = lts.Start tie.the-claims reads.Pre reads.Post

module _ (c : At-Start) where
  abbrev x : ℤ
  x = c.args.x

  abbrev y : ℤ
  y = c.args.y

  abbrev third : ℤ
  third = c.args.k.third

  two : SFits w32 (x +ℤ y)
  two = b-fits w32 (b-add (b-abs {m = 2 ^ 29} {z = x} c.requires.1) (b-abs {m = 2 ^ 29} {z = y} c.requires.2)) tt

  three : SFits w32 (x +ℤ y +ℤ third)
  three = b-fits w32 (b-add (b-add (b-abs {m = 2 ^ 29} {z = x} c.requires.1) (b-abs {m = 2 ^ 29} {z = y} c.requires.2)) (b-abs {m = 2 ^ 29} {z = third} c.requires.0.third)) tt

  third-fits : SFits w32 third
  third-fits = b-fits w32 (b-abs {m = 2 ^ 29} {z = third} c.requires.0.third) tt

pub overflow_add-x : goal.overflow_add-x
overflow_add-x c = simp (to_z-of_z, c.ranges.x, c.ranges.y) (two c)

pub overflow_add-x-2 : goal.overflow_add-x-2
overflow_add-x-2 c = let s = c.before.before.before in simp (to_z-of_z, s.ranges.x, s.ranges.y, two s, third-fits s) (three s)

pub returns : goal.returns
returns c =
    let s = c.before.before.before.before in
    back w32 {z = c.clip.result} (sfits_of c.clip.type_inv)
    ∙ (simp (to_z-of_z, s.ranges.x, s.ranges.y, two s, third-fits s, three s, max= s.args.k s.requires.0) at c.clip.ensures)
    ∙ ap (λ m. clip_to (pos 0) m (x s +ℤ y s +ℤ third s)) s.requires.0.max
    ∙ clip-is s.args.k.bits _ s.requires.0.depth
