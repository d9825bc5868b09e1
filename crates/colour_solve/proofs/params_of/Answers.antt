-- `params_of` meets its contract: shifted sums are what elimination asks for. Assumes nothing.
use borrow.Author.Rules.{sfits_of}
use borrow.Author.Tests.{ne_eqb}
use mathlib.Core.Path.{◌≡◌, sym, ◌∙◌, ap, subst}
use Prim.Native.Nat.{ℕ, ◌+◌, ◌*◌, ◌^◌, ◌≤◌}
use native.Mathlib.Omega.{arith}
use native.Mathlib.Nat.{mul-le-mul, le_trans}
use lib.IntN.{pos}
use mir.Syntax.{w32}
use Rattle.signed.proofs.Bound.{back}
use Rattle.elimination.specs.Elimination.{regular, solved, SumsIn}
use Rattle.colour_samples.specs.Nine.{NineMost}
use Rattle.colour_samples.proofs.Grown.{wider}
use Rattle.colour_samples.proofs.Ranges.{most-small, bits_most}
use Rattle.colour_solve.specs.Shift.{reach, shifted_sums, params_of}
use Rattle.colour_solve.proofs.Reach.{sums-reach, shifted-sums-most}
use Rattle.colour_solve.proofs.params_of.Goals as goal
use Rattle.colour_solve.proofs.params_of.Lts as lts
use Rattle.colour_solve.proofs.params_of.Reads as reads
use Rattle.colour_solve.proofs.params_of.Tie as tie

abbrev At-Start : Type 0
At-Start = lts.Start tie.the-claims reads.Pre reads.Post

small : (s : At-Start) → s.args.d ≤ 12
small s = subst (λ (k : ℕ). k ≤ 12) s.requires.0 (bits_most s.args.depth)

reach-is : (c : goal.After-ceil_log2) → let s = c.before in 2 * s.args.d + c.ceil_log2.result ≡ reach s.args.d s.args.n
unfolding reach
reach-is c = ap (λ (k : ℕ). 2 * c.args.d + k) c.ceil_log2.ensures.0

module _ (c : goal.After-ceil_log2) where
  reached : NineMost (2 ^ (2 * c.args.d + c.ceil_log2.result)) c.args.s
  reached =
      let s = c.before in
      subst (λ (e : ℕ). NineMost (2 ^ e) s.args.s) (sym (reach-is c)) (sums-reach s.args.d s.args.n s.args.s (omega (arith, s.requires.2)) s.requires.3)

pub shift_all-requires : goal.shift_all-requires
shift_all-requires c =
    let s = c.before in
    let m = most-small s.args.d (small s) in (
      wider (le_trans (mul-le-mul s.requires.2 (mul-le-mul m m)) (omega arith)) s.requires.3,
      reached c,
      omega (arith, small s, c.ceil_log2.ensures.1),
    )

pub gauss_elimination-requires : goal.gauss_elimination-requires
gauss_elimination-requires c =
    let r = c.regulariser in
    let a = c.before in (
      subst (SumsIn (2 ^ 22)) (sym a.shift_all.ensures) (shifted-sums-most _ _ (reached a.before)),
      rw (back w32 {z = r.result} (sfits_of r.type_inv)) r.ensures.1,
    )

pub returns : goal.returns
unfolding params_of
returns c =
    let r = c.before in
    let a = r.before in
    let k = a.before in
    let s = k.before in
    let reg = back w32 {z = r.regulariser.result} (sfits_of r.regulariser.type_inv) ∙ r.regulariser.ensures.0 ∙ ap (λ (d : ℕ). pos (regular d)) s.requires.0 in
    let sums = a.shift_all.ensures ∙ ap (λ (e : ℕ). shifted_sums e s.args.s) (reach-is k) in
    simp (ne_eqb s.args.n 0 (λ z. absurd (omega (arith, s.requires.1)))) (c.gauss_elimination.ensures.0 ∙ (λ j. solved (sums j) (reg j)))
