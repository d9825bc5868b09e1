-- `read_patch` meets its contract. The invariant: the first j rows are read, o is the place of row j in the plane, and k in the list. Assumes nothing.
use Prim.Native.Nat.{ℕ, ◌+◌, ◌-◌, ◌*◌, ◌≤◌, ◌<◌}
use native.Mathlib.Nat.{add-mul}
use native.Mathlib.Omega.{arith}
use mathlib.Core.Path.{◌≡◌, ◌∙◌, ap, subst}
use mathlib.Core.List.{List}
use lib.IntN.{ℤ, pos, nat_abs}
use lib.Ieee.{Float, nan}
use lib.ListN.{length, get_or, take, drop}
use mir.Syntax.{w32}
use mir.Val.{to_z, of_z}
use borrow.Rule.Slice.PartMut.{put_mid}
use Rattle.lists.specs.Fill.{tab}
use Rattle.lists.proofs.Fill.{length-tab, tab-at}
use Rattle.lists.proofs.Block.{part_length}
use Rattle.samples.specs.Sample.{reading, Readable}
use Rattle.colour_terms.specs.Terms.{stride}
use Rattle.plane_windows.specs.Into.{read_at, Into}
use Rattle.plane_windows.proofs.Lies.{part_at, row-end}
use Rattle.plane_windows.proofs.Into.{into-row}
use Rattle.plane_windows.proofs.read.read_patch.Goals as goal

-- a row that comes back is one more row of the rectangle
pub again : (times W x y left top w j o k : ℕ) (plane : List Float) (xs ys row : List ℤ) → left + w ≤ stride
    → o ≡ (y + top + j) * W + (x + left) → k ≡ (top + j) * stride + left → k + w ≤ length ys
    → row ≡ tab (length (take (k + w - k) (drop k ys))) (λ i. pos (times * reading (get_or (take (o + w - o) (drop o plane)) i nan)))
    → Into (read_at times W x y plane) left top w j xs ys
    → Into (read_at times W x y plane) left top w (j + 1) xs (put_mid k (k + w - k) ys row)
again times W x y left top w j o k plane xs ys row columns eo ek room er g =
    let n : w ≡ k + w - k = omega arith in
    subst (λ (m : ℕ). Into (read_at times W x y plane) left top w (j + 1) xs (put_mid k m ys row)) n
    (into-row (read_at times W x y plane) left top w j k xs ys row ek columns room long at g)
  where
    long : length row ≡ w
    long = ap length er ∙ length-tab _ _ ∙ part_length k w ys room

    at : (i : ℕ) → i < w → get_or row i (pos 0) ≡ read_at times W x y plane (left + i) (top + j)
    at i l =
        let q : y + top + j ≡ y + (top + j) = omega arith in
        let p : o + i ≡ (y + (top + j)) * W + (x + (left + i)) = omega (arith, eo, ap (λ t. t * W) q) in
        ap (λ (zs : List ℤ). get_or zs i (pos 0)) er
        ∙ tab-at _ _ i (pos 0) (omega (arith, part_length k w ys room))
        ∙ ap (λ v. pos (times * reading v)) (part_at o w plane i nan l ∙ ap (λ t. get_or plane t nan) p)

pub slice_bounds-read_row-end : goal.slice_bounds-read_row-end
slice_bounds-read_row-end c = omega (arith, row-end c.requires.lies.0 c.loop-j.j c.loop-j-test.true)

pub read_row-requires-clause-by_index : goal.read_row-requires-clause-by_index
read_row-requires-clause-by_index c t h =
    let a = c.args in
    let l = c.loop-j in
    let w = a.p.w in
    let g = c.requires.lies.1 in
    let room : l.k + w ≤ length l.window = omega (arith, g.columns, g.rows) in
    let n : t < w = omega (arith, part_length l.k w l.window room) in
    rw (part_at l.o w a.plane.now t nan n)
    (subst (λ q. Readable (get_or a.plane.now q nan)) (omega (arith, l.invariant.1)) (c.requires.times_value.1 t l.j n c.loop-j-test.true))

pub loop-j-preserved : goal.loop-j-preserved
loop-j-preserved c =
    let a = c.args in
    let l = c.loop-j in
    let g = c.requires.lies.1 in
    let room : l.k + a.p.w ≤ length l.window = omega (arith, g.columns, g.rows) in
    let e : a.y + a.p.y + (l.j + 1) ≡ a.y + a.p.y + l.j + 1 = omega arith in
    let more : Into (read_at (nat_abs (to_z w32 (of_z w32 a.times))) a.width a.x a.y a.plane.now) a.p.x a.p.y a.p.w (l.j + 1) a.window.now _ =
    again (nat_abs (to_z w32 (of_z w32 a.times))) a.width a.x a.y a.p.x a.p.y a.p.w l.j l.o l.k a.plane.now a.window.now l.window _ g.columns
    l.invariant.1 l.invariant.2 room c.read_row.ensures l.invariant.4 in (
      omega arith,
      omega (arith, ap (λ t. t * a.width) e, add-mul (a.y + a.p.y + l.j) 1 a.width, l.invariant.1),
      omega (arith, l.invariant.2),
      more.long,
      more,
    )
