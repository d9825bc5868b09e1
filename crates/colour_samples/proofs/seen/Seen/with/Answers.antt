-- `Seen::with` meets its contract: digits joined. Assumes nothing.
use Rattle.std.proofs.Common.{rules}
use mathlib.Core.Path.{◌≡◌, refl, sym, ◌∙◌}
use mathlib.Core.Bool.{Bool, true, false, ◌&&◌}
use Prim.Native.Nat.{suc, ◌+◌, ◌*◌}
use native.Mathlib.Omega.{arith}
use lib.IntN.{ℤ, pos}
use mir.Syntax.{w32}
use mir.Val.{SFits}
use Rattle.numbers.specs.Depth.{most}
use Rattle.signed.specs.Range.{inside}
use Rattle.colour_samples.specs.Sample.{in_range}
use Rattle.colour_samples.proofs.Digits.{two-joined, three-joined, top-is}
use Rattle.colour_samples.proofs.seen.Seen.with.Goals as goal

-- the tests of one sample, after those before it
swap : (x h k : Bool) → (x && (h && k)) ≡ (h && (x && k))
swap true true k = refl
swap true false k = refl
swap false true k = refl
swap false false k = refl

regroup : (l v c h k : Bool) → (((l && v) && c) && (h && k)) ≡ ((l && h) && ((v && c) && k))
regroup true v c h k = swap (v && c) h k
regroup false v c h k = refl

pub returns : goal.returns
unfolding in_range
returns c = (
  refl,
  λ D small.
      let a = c.args in
      let In : ℤ → Bool = inside (pos (8 * most D + 7)) in
      let l : SFits w32 a.self.luma = search rules in
      let h : SFits w32 a.self.chroma = search rules in
      let v : SFits w32 a.s.own = search rules in
      let e : SFits w32 a.s.centre = search rules in
      let k : SFits w32 a.s.chroma = search rules in
      let in-luma = rw (sym (top-is D)) at (three-joined (suc (suc (suc D))) (omega arith) a.self.luma a.s.own a.s.centre l v e) in
      (λ j. in-luma j && two-joined D (omega arith) a.self.chroma a.s.chroma h k j)
      ∙ regroup (In a.self.luma) (In a.s.own) (In a.s.centre) (inside (pos (most D)) a.self.chroma) (inside (pos (most D)) a.s.chroma),
)
