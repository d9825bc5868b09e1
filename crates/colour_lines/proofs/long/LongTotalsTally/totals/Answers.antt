-- The totals that those of the fast way stand for. Assumes nothing.
use Prim.Native.Nat.{◌-◌}
use native.Mathlib.Omega.{arith}
use Rattle.signed.proofs.Naturals.{pow-le}
use Rattle.colour_lines.proofs.LongLaws.{long-most, middle-one}
use Rattle.colour_lines.proofs.long.LongTotalsTally.totals.Goals as goal

pub nine-requires : goal.nine-requires
nine-requires c =
    let D = c.args.depth.d in
    let o = c.args.depth.of_depth in
    (long-most (middle-one D) c.requires, omega (arith, o.middle-is, o.largest, pow-le {i = D - 1} {j = 11} (omega (arith, o.largest))))
