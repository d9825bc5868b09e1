-- The loop of `write_block`: its invariant, and what each turn can count on. Assumes nothing.
use Prim.Native.Nat.{ℕ, ◌+◌, ◌-◌, ◌*◌, ◌≤◌, ◌<◌}
use native.Mathlib.Nat.{mul-le-mul, mul-le-mul_right, add-zero}
use native.Mathlib.Omega.{arith}
use mathlib.Core.Path.{◌≡◌, ◌∙◌, ap}
use mathlib.Core.List.{List}
use lib.ListN.{length, get_or, take, drop}
use lib.IntN.{ℤ, pos}
use lib.Seq.{get_or-take, get_or-drop}
use borrow.Rule.Slice.PartMut.{put_mid}
use lib.Ieee.{Float, nan}
use Rattle.lists.specs.Fill.{tab}
use Rattle.lists.proofs.Fill.{length-tab, tab-at}
use Rattle.lists.proofs.Block.{part_length}
use Rattle.paint.specs.Block.{with_difference, added_at}
use Rattle.paint.specs.Painted.{painted}
use Rattle.paint.proofs.RowByRow.{rows_of, painted-row}
use Rattle.paint.proofs.write_block.Invariants.{at}
use Rattle.paint.proofs.write_block.Goals as goal
use Rattle.paint.proofs.write_block.Lts as lts
use Rattle.paint.proofs.write_block.Reads as reads
use Rattle.paint.proofs.write_block.Tie as tie

abbrev At-Start : Type 0
At-Start = lts.Start tie.the-claims reads.Pre reads.Post goal.the-invariant-loop-r goal.the-decreases-loop-r tie.handed_clauses

abbrev At-In-loop-r : Type 0
At-In-loop-r = lts.In-loop tie.the-claims reads.Pre reads.Post goal.the-invariant-loop-r goal.the-decreases-loop-r tie.handed_clauses

-- an entry of a part that is lent
pub part_at : {A : Type 0} (m n : ℕ) (xs : List A) (i : ℕ) (d : A) → i < n → get_or (take (m + n - m) (drop m xs)) i d ≡ get_or xs (m + i) d
part_at m n xs i d h = get_or-take (m + n - m) (drop m xs) i d (omega arith) ∙ get_or-drop m xs i d

-- a row that comes back is one more row of the block
pub again : (W x y bs r o k : ℕ) (m : ℤ) (block : List Float) (differences : List ℤ) (plane₀ plane row : List Float) → x + bs ≤ W
    → o ≡ (y + r) * W + x → k ≡ r * bs → length plane ≡ length plane₀ → plane ≡ painted W (rows_of x y bs r) (at m block differences bs) plane₀
    → o + bs ≤ length plane
    → row ≡ tab (length (take (o + bs - o) (drop o plane))) (added_at m (take (k + bs - k) (drop k block)) (take (k + bs - k) (drop k differences)))
    → put_mid o (o + bs - o) plane row ≡ painted W (rows_of x y bs (r + 1)) (at m block differences bs) plane₀
again W x y bs r o k m block differences plane₀ plane row wide eo ek el ep room er =
    (λ j. put_mid (eo j) (en j) (ep j) row)
    ∙ painted-row W x y bs wide (at m block differences bs) plane₀ r row (omega arith) long (λ i h.
    ap (λ l. get_or l i nan) er ∙ tab-at _ _ i nan (omega (arith, part_length o bs plane room))
    ∙ (λ j. with_difference m (part_at k bs block i nan h j) (part_at k bs differences i (pos 0) h j))
    ∙ ap (λ t. added_at m block differences (t + i)) ek)
  where
    en : o + bs - o ≡ bs
    en = omega arith

    long : length row ≡ bs
    long = ap length er ∙ length-tab _ _ ∙ part_length o bs plane room

-- the block's first place
pub first : (s : At-Start) → s.args.y * s.args.width + s.args.x + s.args.bs ≤ 16777216
first s = let g = s.requires.room.0 in omega (arith, g.small, rw add-zero at (g.lies 0 (omega (arith, g.some))))

module _ (c : At-In-loop-r) where
  abbrev pub start : At-Start
  start = c.before.before.before.before

  pub room : c.loop-r.o + start.args.bs ≤ length c.loop-r.plane
  room = omega (arith, start.requires.room.0.lies c.loop-r.r c.loop-r-test.true)

  pub near : c.loop-r.o + start.args.bs ≤ 16777216
  near = omega (arith, room, start.requires.room.0.small)

  pub lent : (c.loop-r.k + start.args.bs ≤ length start.args.block.now) × (c.loop-r.k + start.args.bs ≤ length start.args.differences.now)
  lent = let h = mul-le-mul_right start.args.bs c.loop-r-test.true in (omega arith, omega arith)

  pub few : c.loop-r.k + start.args.bs ≤ 4096
  few = let g = start.requires.room.0 in omega (arith, mul-le-mul_right start.args.bs c.loop-r-test.true, mul-le-mul g.side g.side)
