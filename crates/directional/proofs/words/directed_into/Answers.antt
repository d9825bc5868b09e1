-- `directed_into` meets its contract: the words' direction, delta and flags are the definition's. Assumes nothing.
use mathlib.Core.Path.{◌≡◌, sym, ◌∙◌, ap, subst}
use Rattle.std.specs.Prelude.{IsOk}
use lib.IntN.{pos, nat_abs}
use mir.Syntax.{w32}
use mir.Val.{to_z, of_z}
use mir.Facts.{to_z-of_z}
use borrow.Author.Rules.{sfits_of}
use Rattle.numbers.specs.Depth.{most}
use Rattle.row_words.specs.Dir.{delta_of, angle_of, dir_of}
use Rattle.row_words.proofs.Dirs.{dir-found}
use Rattle.row_words.proofs.Angle.{delta-small}
use Rattle.signed.proofs.Bound.{back}
use Rattle.lists.specs.Block.{block}
use Rattle.directional.specs.Words.{angle_from, setting_of}
use Rattle.directional.specs.Directional.{directional_at}
use Rattle.directional.proofs.Named.{named-all}
use Rattle.directional.proofs.words.directed_into.Goals as goal

pub unwrap-dir-requires : goal.unwrap-dir-requires
unwrap-dir-requires c = subst IsOk (sym c.try_from.ensures) (dir-found c.args.direction (named-all _ _ _ c.requires.1).0)

pub delta-requires : goal.delta-requires
delta-requires c = (named-all c.args.direction c.args.delta c.args.flags c.requires.1).1

pub turned_into-requires : goal.turned_into-requires
turned_into-requires c =
    let names = named-all c.args.direction c.args.delta c.args.flags c.requires.1 in
    let delta-is : to_z w32 (of_z w32 c.delta.result) ≡ delta_of c.args.delta = back w32 {z = c.delta.result} (sfits_of c.delta.type_inv) ∙ c.delta.ensures in
    simp (delta-is, to_z-of_z, c.ranges.corner) (c.requires.0, delta-small c.args.delta names.1, c.requires.2)

pub returns : goal.returns
returns c =
    let B = c.args.b in
    let delta-is : to_z w32 (of_z w32 c.delta.result) ≡ delta_of c.args.delta = back w32 {z = c.delta.result} (sfits_of c.delta.type_inv) ∙ c.delta.ensures in
    let angle-is : nat_abs (angle_of c.unwrap-dir.result (to_z w32 (of_z w32 c.delta.result))) ≡ angle_from (dir_of c.args.direction) c.args.delta =
    ap (λ z. nat_abs (angle_of c.unwrap-dir.result z)) delta-is ∙ sym (ap (λ g. angle_from g c.args.delta) (sym c.try_from.ensures ∙ c.unwrap-dir.ensures)) in
    c.turned_into.ensures
    ∙ (λ j. block B B (directional_at B B (pos (most c.args.d)) (setting_of B (angle-is j) (c.of.ensures j) c.args.wide c.args.high) c.args.above.now c.args.left.now (to_z-of_z c.ranges.corner j)) c.args.out.now)
