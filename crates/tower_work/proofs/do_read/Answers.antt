-- `do_read` meets its contract: by its mode. Assumes nothing.
use borrow.Author.Rules.{rules}
use Rattle.tower_work.proofs.Modes.{base-asks, colour-asks, base-left, colour-left}
use native.Mathlib.Omega.{arith}
use Rattle.tower_work.proofs.do_read.Goals as goal

pub on_plane-requires : goal.on_plane-requires
on_plane-requires c =
    let a = base-asks _ _ _ _ c.args.job.mode c.requires.one_plane.1 _ c.in-Base.is in
    record { one_plane = (c.requires.one_plane.0, a.0); above_len = (search rules, search rules, omega (arith, a.1, c.requires.luma_len)) }

pub on_plane-requires-in-Colour : goal.on_plane-requires-in-Colour
on_plane-requires-in-Colour c =
    let a = colour-asks _ _ _ _ c.args.job.mode c.requires.one_plane.1 _ c.in-Colour.is in
    record { one_plane = (c.requires.one_plane.0, a.0, a.1); colour_room = rw (c.requires.luma_len.0, c.requires.luma_len.1, c.requires.luma_len.2) a.2 }

pub returns-in-Base : goal.returns-in-Base
returns-in-Base c =
    base-left c.args.width c.args.job.plane c.args.differences.now c.args.job.mode _ _ _ _ c.in-Base.is c.on_plane.ensures

pub returns-in-Colour : goal.returns-in-Colour
returns-in-Colour c =
    colour-left c.args.width c.args.job.plane c.args.differences.now c.args.job.mode _ _ _ _ c.in-Colour.is c.on_plane-in-Colour.ensures
