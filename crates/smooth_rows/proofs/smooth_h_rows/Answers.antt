-- `smooth_h_rows` meets its contract. The invariant: the first r rows are written, and o is r bs. Assumes nothing.
use Prim.Native.Nat.{◌≤◌, ◌+◌}
use native.Mathlib.Omega.{arith}
use mathlib.Core.Path.{refl, sym, ◌∙◌}
use lib.ListN.{length}
use lib.IntN.{pos, nat_abs}
use Rattle.lists.specs.Block.{sample}
use Rattle.lists.proofs.Fill.{filled_none}
use Rattle.lists.proofs.Block.{filled_row, part_length}
use Rattle.lists.proofs.RowLoop.{row_room, all-rows}
use Rattle.smooth_steps.specs.Parts.{edge_at}
use Rattle.smooth_steps.proofs.Steps.{entry-most, line-long, line_at, line-most}
use Rattle.smooth_rows.proofs.smooth_h_rows.Invariants.{at}
use Rattle.smooth_rows.proofs.smooth_h_rows.Goals as goal

pub loop-r-init : goal.loop-r-init
loop-r-init c = (omega arith, omega arith, refl, refl, sym (filled_none _ _))

pub sample_row-requires : goal.sample_row-requires
sample_row-requires c =
    let l = c.loop-r in
    let p = c.requires in
    let room : l.o + c.args.bs ≤ length l.out = row_room c.args.bs l.invariant.1 c.loop-r-test.true p.entries.3 l.invariant.3 in
    let u = nat_abs (edge_at c.args.left.now l.r) in
    let long = line-long p.entries.1 p.weights u l.line c.across.ensures (omega arith) in
    simp (part_length l.o c.args.bs l.out room)
    (omega arith, line-most p.entries.1 p.weights u l.line c.across.ensures (entry-most p.entries.0 l.r c.loop-r-test.true))

pub loop-r-preserved : goal.loop-r-preserved
loop-r-preserved c =
    let l = c.loop-r in
    let p = c.requires in
    let g = c.args in
    let room : l.o + g.bs ≤ length l.out = row_room g.bs l.invariant.1 c.loop-r-test.true p.entries.3 l.invariant.3 in
    let u = nat_abs (edge_at g.left.now l.r) in (
      omega arith,
      omega arith,
      line-long p.entries.1 p.weights u l.line c.across.ensures (omega arith) ∙ l.invariant.2,
      omega arith,
      filled_row g.bs l.r l.o (at g.bs g.left.now g.e g.weights.now) _ _ _ _
          l.invariant.1 room l.invariant.4 c.sample_row.ensures
          (λ j h x. sample (pos (line_at p.entries.1 p.weights u l.line c.across.ensures j h x))),
    )

pub returns : goal.returns
returns c =
    let l = c.loop-r in
    let B = c.args.bs in
    all-rows B B l.r l.o _ _ _ l.invariant.1 l.invariant.0 (omega arith) l.invariant.4
