-- `alone` meets its contract: by its mode. Assumes nothing.
use Rattle.tower_work.proofs.Modes.{base-asks, colour-asks, base-left, colour-left}
use Rattle.tower_single.proofs.alone.alone.Goals as goal

pub base_alone-requires : goal.base_alone-requires
base_alone-requires c =
    (c.requires.0, (base-asks _ _ _ _ c.args.job.mode c.requires.1 _ c.in-Base.is).0)

pub colour_alone-requires : goal.colour_alone-requires
colour_alone-requires c =
    let a = colour-asks _ _ _ _ c.args.job.mode c.requires.1 _ c.in-Colour.is in
    (c.requires.0, a.0, a.1)

pub returns-in-Base : goal.returns-in-Base
returns-in-Base c =
    base-left c.args.width c.args.job.plane c.args.differences.now c.args.job.mode _ _ _ _ c.in-Base.is c.base_alone.ensures

pub returns-in-Colour : goal.returns-in-Colour
returns-in-Colour c =
    colour-left c.args.width c.args.job.plane c.args.differences.now c.args.job.mode _ _ _ _ c.in-Colour.is c.colour_alone.ensures
