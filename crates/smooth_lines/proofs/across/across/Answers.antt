-- `across` meets its contract: the first columns have their weights, and the others none. Assumes nothing.
use borrow.Author.Rules.{rules}
use native.Mathlib.Nat.{zero-add}
use native.Mathlib.Omega.{arith}
use mathlib.Core.Path.{sym, ◌∙◌, ap}
use Prim.Native.Nat.{ℕ, ◌≤◌, ◌+◌, ◌-◌}
use lib.ListN.{length, get_or, length-take}
use Rattle.lists.specs.Fill.{filled}
use Rattle.lists.proofs.Fill.{filled_none, filled-part, length-filled}
use Rattle.smooth_steps.specs.Parts.{weighed}
use Rattle.smooth_steps.proofs.Parts.{weighed-none}
use Rattle.smooth_steps.proofs.Steps.{parts-most, entry_in, entry-abs, entry-most}
use Rattle.smooth_lines.proofs.across.across.Goals as goal

pub overflow_cast-m : goal.overflow_cast-m
overflow_cast-m c = omega (arith, parts-most c.requires.0)

pub natural-l-requires : goal.natural-l-requires
natural-l-requires c = entry_in c.requires.1 c.args.r c.requires.2

-- the entry at the left
pub weighted_line-requires : goal.weighted_line-requires
weighted_line-requires c =
    let left_is = c.natural-l.ensures ∙ entry-abs c.requires.1 c.args.r c.requires.2 in
    let left-most : c.natural-l.result ≤ 4095 = omega (arith, left_is, entry-most c.requires.1 c.args.r c.requires.2) in
    let w = c.requires.4 in
    let n = length-take c.args.reach c.args.line.now in
    record { step = (c.requires.0, left-most, omega arith); line_in_bounds = (omega arith, λ i l. w.parts i (omega arith)) }

pub ramp_line-requires : goal.ramp_line-requires
ramp_line-requires c =
    let left_is = c.natural-l.ensures ∙ entry-abs c.requires.1 c.args.r c.requires.2 in
    let most : c.natural-l.result ≤ 4095 = omega (arith, left_is, entry-most c.requires.1 c.args.r c.requires.2) in
    search rules

pub returns : goal.returns
returns c =
    let a = c.args in
    let line = a.line.now in
    let t = c.natural-l.result in
    let left_is = c.natural-l.ensures ∙ entry-abs c.requires.1 a.r c.requires.2 in
    let f : ℕ → ℕ = λ i. weighed a.bs a.e t (a.bs - 1 - i) (get_or a.weights.now i 0) in
    let first = filled-part 0 a.reach f _ line line _ (omega arith) (omega arith) (sym (filled_none f line)) c.weighted_line.ensures (λ i l. ap f (sym (zero-add i))) in
    let long = ap length first ∙ length-filled a.reach f line (omega arith) in
    filled-part a.reach a.bs f _ line _ _ (omega arith) (omega arith) first c.ramp_line.ensures
    (λ i l. sym (weighed-none a.bs a.e t (a.bs - 1 - (a.reach + i)) (get_or a.weights.now (a.reach + i) 0) (c.requires.4.none (a.reach + i) (omega arith) (omega arith))))
    ∙ ap (λ n. filled a.bs (λ i. weighed a.bs a.e n (a.bs - 1 - i) (get_or a.weights.now i 0)) line) left_is
