-- `write_patch` meets its contract. The invariant: the first r rows are written, o is the place of row r, and k is r w. Assumes nothing.
use Prim.Native.Nat.{ℕ, ◌+◌, ◌-◌, ◌*◌, ◌≤◌}
use native.Mathlib.Nat.{add-mul, mul-le-mul_right}
use native.Mathlib.Omega.{arith}
use mathlib.Core.Path.{◌≡◌, refl, sym, ◌∙◌, ap}
use mathlib.Core.List.{List}
use lib.IntN.{ℤ, pos}
use lib.Ieee.{Float, nan}
use lib.ListN.{length, get_or, take, drop}
use borrow.Rule.Slice.PartMut.{put_mid}
use Rattle.lists.specs.Fill.{tab}
use Rattle.lists.specs.Block.{sample}
use Rattle.lists.proofs.Fill.{length-tab, tab-at}
use Rattle.lists.proofs.Block.{part_length}
use Rattle.paint.specs.Painted.{painted}
use Rattle.paint.proofs.Middle.{mid-length}
use Rattle.paint.proofs.RowByRow.{rows_of, painted-none, painted-row}
use Rattle.plane_windows.proofs.Lies.{part_at, row-end}
use Rattle.plane_windows.proofs.write.write_patch.Invariants.{at}
use Rattle.plane_windows.proofs.write.write_patch.Goals as goal

-- a row that comes back is one more row of the block
pub again : (W x y w r o k : ℕ) (from : List ℤ) (plane₀ plane row : List Float) → x + w ≤ W → o ≡ (y + r) * W + x → k ≡ r * w
    → length plane ≡ length plane₀ → plane ≡ painted W (rows_of x y w r) (at from w) plane₀ → o + w ≤ length plane
    → row ≡ tab (length (take (o + w - o) (drop o plane))) (λ i. sample (get_or (take (k + w - k) (drop k from)) i (pos 0)))
    → put_mid o (o + w - o) plane row ≡ painted W (rows_of x y w (r + 1)) (at from w) plane₀
again W x y w r o k from plane₀ plane row wide eo ek el ep room er =
    (λ j. put_mid (eo j) (en j) (ep j) row)
    ∙ painted-row W x y w wide (at from w) plane₀ r row (omega arith) long (λ i h.
    ap (λ l. get_or l i nan) er ∙ tab-at _ _ i nan (omega (arith, part_length o w plane room))
    ∙ ap sample (part_at k w from i (pos 0) h ∙ ap (λ t. get_or from (t + i) (pos 0)) ek))
  where
    en : o + w - o ≡ w
    en = omega arith

    long : length row ≡ w
    long = ap length er ∙ length-tab _ _ ∙ part_length o w plane room

pub loop-r-init : goal.loop-r-init
loop-r-init c =
    let a = c.args in
    let z : a.p.y + 0 ≡ a.p.y = omega arith in
    (omega arith, ap (λ t. t * a.width + a.p.x) (sym z), omega arith, refl, sym (painted-none a.width a.p.x a.p.y a.p.w c.requires.lies.across _ _))

pub slice_bounds-write_row-end-in-loop-r : goal.slice_bounds-write_row-end-in-loop-r
slice_bounds-write_row-end-in-loop-r c = omega (arith, row-end c.requires.lies c.loop-r.r c.loop-r-test.true)

-- the row's numbers
module _ (c : goal.After-write_row-arg-in-loop-r-1) where
  room : c.loop-r.o + c.args.p.w ≤ length c.loop-r.plane
  room = omega (arith, row-end c.requires.lies c.loop-r.r c.loop-r-test.true)

  inside-block : c.loop-r.k + c.args.p.w ≤ c.args.p.h * c.args.p.w
  inside-block = omega (arith, mul-le-mul_right c.args.p.w c.loop-r-test.true)

  lent : c.loop-r.k + c.args.p.w ≤ length c.args.from.now
  lent = omega (arith, inside-block, c.requires.w_in_bounds.0)

pub write_row-requires : goal.write_row-requires
write_row-requires c =
    let a = c.args in
    let l = c.loop-r in
    let n = part_length l.o a.p.w l.plane (room c) in
    let m = part_length l.k a.p.w a.from.now (lent c) in
    simp (n, m) (
      omega arith,
      λ j h. rw (part_at l.k a.p.w a.from.now j (pos 0) h) (c.requires.w_in_bounds.1 (l.k + j) (omega (arith, inside-block c))),
    )

pub loop-r-preserved : goal.loop-r-preserved
loop-r-preserved c =
    let a = c.args in
    let l = c.loop-r in
    let e : a.p.y + (l.r + 1) ≡ a.p.y + l.r + 1 = omega arith in
    let room : l.o + a.p.w ≤ length l.plane = omega (arith, row-end c.requires.lies l.r c.loop-r-test.true) in
    let row : length c.write_row.new.row ≡ l.o + a.p.w - l.o = ap length c.write_row.ensures ∙ length-tab _ _ ∙ part_length l.o a.p.w l.plane room ∙ omega arith in (
      omega arith,
      omega (arith, ap (λ t. t * a.width) e, add-mul (a.p.y + l.r) 1 a.width, l.invariant.1),
      omega (arith, add-mul l.r 1 a.p.w, l.invariant.2),
      mid-length l.o (l.o + a.p.w - l.o) l.plane c.write_row.new.row (omega arith) row ∙ l.invariant.3,
      again a.width a.p.x a.p.y a.p.w l.r l.o l.k a.from.now a.plane.now l.plane _ c.requires.lies.across l.invariant.1 l.invariant.2 l.invariant.3
          l.invariant.4 room c.write_row.ensures,
    )
