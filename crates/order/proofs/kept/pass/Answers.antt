-- `pass` meets its contract: the bounds are those of the row. Assumes nothing.
use mathlib.Core.Path.{◌∙◌, ap}
use mathlib.Core.Bool.{true≢false}
use Rattle.touches.specs.Touches.{block_at}
use Rattle.clash.specs.Hull.{hull_of}
use Rattle.order.specs.Sides.{noted}
use Rattle.clash.proofs.Placed.{row_is}
use Rattle.order.proofs.Bounds.{placed-if, sides-is, searched-as}
use Rattle.order.proofs.kept.pass.Goals as goal

pub block_sides-b-requires : goal.block_sides-b-requires
block_sides-b-requires c =
    placed-if _ _ _ _ _ _ c.stands-on.ensures c.spec_of-s.ensures c.requires.0 c.requires.1

pub hull_sides-h-requires : goal.hull_sides-h-requires
hull_sides-h-requires c =
    placed-if _ _ _ _ _ _ c.stands-on.ensures c.spec_of-s.ensures c.requires.0 c.requires.1

-- the bounds b and h are those of row i
pub returns-then-search : goal.returns-then-search
returns-then-search c =
    let b = sides-is c.args.width c.args.height c.args.n _ _ _ c.stands-on.ensures c.spec_of-s.ensures _ (row_is c.args.plan.now c.args.i) block_at _ c.block_sides-b.ensures in
    let h = sides-is c.args.width c.args.height c.args.n _ _ _ c.stands-on.ensures c.spec_of-s.ensures _ (row_is c.args.plan.now c.args.i) hull_of _ c.hull_sides-h.ensures in
    record {
      searched = searched-as _ _ _ _ _ _ _ _ _ _ _ _ _ _ b h c.if-search.true c.search.ensures;
      blocks-are = λ e. absurd (true≢false e);
      hulls-are = λ e. absurd (true≢false e);
    }

pub returns : goal.returns
returns c =
    let b = sides-is c.args.width c.args.height c.args.n _ _ _ c.stands-on.ensures c.spec_of-s.ensures _ (row_is c.args.plan.now c.args.i) block_at _ c.block_sides-b.ensures in
    let h = sides-is c.args.width c.args.height c.args.n _ _ _ c.stands-on.ensures c.spec_of-s.ensures _ (row_is c.args.plan.now c.args.i) hull_of _ c.hull_sides-h.ensures in
    record {
      searched = searched-as _ _ _ _ _ _ _ _ _ _ _ _ _ _ b h c.if-search.false c.search.ensures;
      blocks-are = λ e. c.note.ensures ∙ ap (noted _ _) b;
      hulls-are = λ e. c.note-2.ensures ∙ ap (noted _ _) h;
    }
