-- `derive_into` meets its contract: a refusal returns before any store, and a window that is accepted has room for three. Assumes nothing.
use borrow.Author.Rules.{rules}
use borrow.Author.Tests.{leb-true}
use native.Mathlib.Omega.{arith}
use mathlib.Core.Path.{◌≡◌, sym, ◌∙◌, ap}
use lib.ListN.{set, length-set}
use mir.Syntax.{w32}
use mir.Val.{to_z, of_z}
use Rattle.refusals.proofs.Promise.{passes-on, comes-to}
use Rattle.colour_params.specs.Derived.{written}
use Rattle.colour_params.proofs.Answers.{room-kept, derived-err, derived-ok, three-stores}
use Rattle.colour_params.proofs.derive_into.Goals as goal

pub returns-in_err-p : goal.returns-in_err-p
returns-in_err-p c =
    passes-on _ _ _ c.from_residual.ensures.1 (derived-err _ _ _ _ _ _ _ c.in_err-p.ensures)

pub bounds-params-0 : goal.bounds-params-0
bounds-params-0 c =
    let k = leb-true _ _ (room-kept _ _ _ _ _ _ (sym (derived-ok _ _ _ _ _ _ _ c.in_ok-p.ensures).0)) in
    omega arith

pub bounds-params-1 : goal.bounds-params-1
bounds-params-1 c =
    let k = leb-true _ _ (room-kept _ _ _ _ _ _ (sym (derived-ok _ _ _ _ _ _ _ c.in_ok-p.ensures).0)) in
    simp length-set (omega arith)

pub bounds-params-2 : goal.bounds-params-2
bounds-params-2 c =
    let k = leb-true _ _ (room-kept _ _ _ _ _ _ (sym (derived-ok _ _ _ _ _ _ _ c.in_ok-p.ensures).0)) in
    simp (length-set, length-set) (omega arith)

pub returns : goal.returns
returns c =
    let p = c.in_ok-p.p in
    let xs = c.args.params.now in
    let d = derived-ok _ _ _ _ _ _ _ c.in_ok-p.ensures in
    let x0 : to_z w32 (of_z w32 p.x0) ≡ p.x0 = search rules in
    let x1 : to_z w32 (of_z w32 p.x1) ≡ p.x1 = search rules in
    let x2 : to_z w32 (of_z w32 p.x2) ≡ p.x2 = search rules in
    let k = leb-true _ _ (room-kept _ _ _ _ _ _ (sym d.0)) in
    comes-to _ _ d.0
    ((λ j. set (set (set xs 0 (x0 j)) 1 (x1 j)) 2 (x2 j)) ∙ three-stores p xs k ∙ ap (λ r. written r xs) d.1)
