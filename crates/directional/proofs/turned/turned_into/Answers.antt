-- `turned_into` meets its contract: the setting and M of the depth are the definition's. Assumes nothing.
use mathlib.Core.Path.{◌≡◌, sym, ◌∙◌, ap, subst}
use Rattle.std.specs.Prelude.{IsOk}
use native.Mathlib.Omega.{arith}
use lib.IntN.{pos, nat_abs}
use mir.Syntax.{w32}
use mir.Val.{to_z, of_z}
use mir.Facts.{to_z-of_z}
use borrow.Author.Rules.{sfits_of}
use Rattle.numbers.specs.Depth.{most}
use Rattle.row_words.specs.Dir.{angle_of}
use Rattle.numbers.proofs.Agree.{depth-found, depth-back}
use Rattle.row_words.proofs.Angle.{angle-range}
use Rattle.signed.proofs.Bound.{back}
use Rattle.signed.proofs.Range.{pos-inside}
use Rattle.lists.specs.Block.{block}
use Rattle.direct_calls.proofs.Accepted.{depth-most}
use Rattle.directional.specs.Directional.{directional_at}
use Rattle.directional.specs.Words.{setting_of}
use Rattle.directional.proofs.turned.turned_into.Goals as goal

pub unwrap-requires : goal.unwrap-requires
unwrap-requires c = subst IsOk (sym c.try_from.ensures) (depth-found c.args.d c.requires.0)

pub directional_into-requires-clause-m_value : goal.directional_into-requires-clause-m_value
directional_into-requires-clause-m_value c =
    let M-is : to_z w32 (of_z w32 c.max-m.result) ≡ pos (most c.args.d) =
    back w32 {z = c.max-m.result} (sfits_of c.max-m.type_inv) ∙ c.max-m.ensures ∙ ap (λ n. pos (most n)) (depth-back _ _ (sym c.try_from.ensures ∙ c.unwrap.ensures)) in
    let set_is : c.setting_of-set.result ≡ setting_of c.args.b (nat_abs (angle_of c.args.dir c.args.delta)) c.args.flags c.args.wide c.args.high =
    c.setting_of-set.ensures ∙ ap (λ z. setting_of c.args.b (nat_abs (angle_of c.args.dir z)) c.args.flags c.args.wide c.args.high) (to_z-of_z c.ranges.delta) in
    let g = angle-range c.args.dir c.args.delta c.requires.1 in
    simp (M-is, set_is) (pos-inside 4095 (most c.args.d) (depth-most c.args.d c.requires.0), g.0, omega (arith, g.1))

pub returns : goal.returns
returns c =
    let M-is : to_z w32 (of_z w32 c.max-m.result) ≡ pos (most c.args.d) =
    back w32 {z = c.max-m.result} (sfits_of c.max-m.type_inv) ∙ c.max-m.ensures ∙ ap (λ n. pos (most n)) (depth-back _ _ (sym c.try_from.ensures ∙ c.unwrap.ensures)) in
    let set_is : c.setting_of-set.result ≡ setting_of c.args.b (nat_abs (angle_of c.args.dir c.args.delta)) c.args.flags c.args.wide c.args.high =
    c.setting_of-set.ensures ∙ ap (λ z. setting_of c.args.b (nat_abs (angle_of c.args.dir z)) c.args.flags c.args.wide c.args.high) (to_z-of_z c.ranges.delta) in
    let B = c.args.b in
    c.directional_into.ensures
    ∙ (λ j. block B B (directional_at B B (M-is j) (set_is j) c.args.above.now c.args.left.now (to_z-of_z c.ranges.corner j)) c.args.out.now)
