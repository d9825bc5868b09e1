-- `chroma_sample` meets its contract: what is clipped is small, so the cast is exact. Assumes nothing.
use native.Mathlib.Omega.{arith}
use mathlib.Core.Path.{◌≡◌, ◌∙◌, ap}
use Prim.Native.Nat.{◌≤◌}
use lib.IntN.{nat_abs}
use mir.Syntax.{w32}
use mir.Facts.{to_z-of_z}
use Rattle.lists.specs.Block.{sample}
use Rattle.signed.proofs.Bound.{back-abs, exact, back}
use Rattle.taps.specs.Interp.{clip, taps2}
use Rattle.taps.proofs.Laws.{clip-small}
use Rattle.taps.proofs.value.chroma_sample.Goals as goal
use Rattle.taps.proofs.value.chroma_sample.Lts as lts
use Rattle.taps.proofs.value.chroma_sample.Reads as reads
use Rattle.taps.proofs.value.chroma_sample.Tie as tie

abbrev At-Start : Type 0
At-Start = lts.Start tie.the-claims reads.Pre reads.Post tie.handed_clauses

abbrev At-After-clipped : Type 0
At-After-clipped = lts.After-clipped tie.the-claims reads.Pre reads.Post tie.handed_clauses

module _ (c : At-After-clipped) where
  abbrev s : At-Start
  s = c.before.before

  two_is : c.two.result ≡ taps2 s.args.g s.args.f s.args.a s.args.b
  two_is = simp (to_z-of_z, s.ranges.g, s.ranges.f, s.ranges.a, s.ranges.b) at c.two.ensures

  is : c.clipped.result ≡ clip s.args.m (taps2 s.args.g s.args.f s.args.a s.args.b)
  is =
      simp (back w32 {z = c.two.result} (record { sfits = c.two.type_inv }), to_z-of_z, s.ranges.m) at c.clipped.ensures
      ∙ ap (λ z. clip s.args.m z) two_is

  small : nat_abs c.clipped.result ≤ 4095
  small = rw is (clip-small 4095 s.args.m _ s.requires.m_value)

pub int_to_float-result : goal.int_to_float-result
int_to_float-result c =
    let h = small c.before in
    rw (back-abs w32 c.clipped.result (omega arith)) (exact c.clipped.result (omega arith))

pub returns : goal.returns
returns c =
    let h = small c.before in
    ap sample (back-abs w32 c.clipped.result (omega arith) ∙ is c.before)
