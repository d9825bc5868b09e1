-- `build_refs` meets its contract: a refusal returns before any store, and a call that is not refused meets what the fills ask. Assumes nothing.
use borrow.Author.Rules.{sfits_of}
use native.Mathlib.Omega.{arith}
use mathlib.Core.Path.{◌≡◌, refl, sym, ◌∙◌, ap}
use mathlib.Core.Bool.{true}
use mathlib.Core.List.{List}
use Prim.Native.Nat.{ℕ}
use lib.Ieee.{Float}
use lib.IntN.{ℤ, pos}
use Rattle.block_spec.specs.declared.spec.IntraRefSpec.{IntraRefSpec}
use Rattle.edges.specs.Rules.{refs_answer}
use lib.ListN.{length}
use mir.Syntax.{w32}
use Rattle.std.specs.Prelude.{⊤, Ok}
use Rattle.numbers.specs.Answer.{is_done}
use Rattle.numbers.proofs.Look.{passed_on}
use Rattle.numbers.proofs.Named.{ok-done, refusal-not-done}
use Rattle.signed.proofs.Bound.{back}
use Rattle.lists.proofs.Fill.{filled_none, filled_more}
use Rattle.refusals.proofs.Promise.{refused, finished}
use Rattle.edges.proofs.Accepted.{Accepted, accepted}
use Rattle.edges.proofs.build_refs.Goals as goal

-- what a call that is not refused can count on
module _ (plane : List Float) (W H : ℕ) (s : IntraRefSpec) (above left corner : List ℤ) {u : ⊤}
    (is : Ok u ≡ refs_answer plane W H s (length above) (length left) (length corner)) where
  granted : Accepted plane W s (length above) (length left) (length corner)
  granted = accepted _ _ _ _ _ _ _ (sym is)

pub returns-in_err-refused : goal.returns-in_err-refused
returns-in_err-refused c =
    refused _ _ (passed_on _ c.from_residual.ensures.1 ∙ c.in_err-refused.ensures) (ap is_done (passed_on _ c.from_residual.ensures.1) ∙ refusal-not-done _)

pub fill_edges-requires : goal.fill_edges-requires
fill_edges-requires c =
    let g = granted _ _ _ c.args.s c.args.above.now c.args.left.now c.args.corner.now c.in_ok-refused.ensures in
    record { placed = (g.place, g.read); in_bounds = (g.long.0, g.long.1) }

pub bounds-corner-0 : goal.bounds-corner-0
bounds-corner-0 c =
    let g = granted _ _ _ c.args.s c.args.above.now c.args.left.now c.args.corner.now c.in_ok-refused.ensures in
    omega (arith, g.long.2)

pub returns : goal.returns
returns c =
    let f = c.fill_edges in
    let list = c.args.corner.now in
    let g = granted _ _ _ c.args.s c.args.above.now c.args.left.now list c.in_ok-refused.ensures in
    let first = back w32 {z = f.result} (sfits_of f.type_inv) ∙ f.ensures.2 in
    let corner = filled_more 0 _ list list _ (pos 0) g.long.2 (sym (filled_none _ list)) first in
    finished _ _ c.in_ok-refused.ensures (ok-done refl) (λ j. record { above = f.ensures.0 j; left = f.ensures.1 j; corner = corner j })
