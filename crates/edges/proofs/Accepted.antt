-- What a call that is not refused can count on. Assumes nothing.
use mathlib.Core.Path.{◌≡◌}
use mathlib.Core.Bool.{true, ◌&&◌}
use mathlib.Core.List.{List, ◌∷◌, ◌++◌}
use Prim.Native.Nat.{ℕ, ◌≤◌}
use lib.Dec.{leb}
use lib.Ieee.{Float}
use lib.ListN.{length}
use borrow.Author.Tests.{leb-true}
use Rattle.numbers.specs.declared.answer.Refusal.TheVariants.{ShortList}
use Rattle.signed.proofs.Range.{and_both}
use Rattle.refusals.specs.Ladder.{◌else◌}
use Rattle.refusals.proofs.Ladder.{all-kept, kept_append}
use Rattle.block_spec.specs.declared.spec.IntraRefSpec.{IntraRefSpec}
use Rattle.edges.specs.Rules.{outputs_long, refs_rules, refs_answer}
use Rattle.sides.specs.Read.{all_read, read_rules}
use Rattle.block_spec.specs.Rules.{size_rules, place_rules}
use Rattle.block_spec.specs.Placed.{Placed}
use Rattle.block_spec.proofs.Placed.{standing, placed}
use Rattle.numbers.specs.Answer.{done}

pub record Accepted (plane : List Float) (W : ℕ) (s : IntraRefSpec) (above left corner : ℕ) : Type 0 where
  pub place : Placed (length plane) W s
  pub read : all_read plane W s ≡ true
  pub long : (128 ≤ above) × (128 ≤ left) × (1 ≤ corner)

long-all : (above left corner : ℕ) → outputs_long above left corner ≡ true → (128 ≤ above) × (128 ≤ left) × (1 ≤ corner)
unfolding outputs_long
long-all above left corner e =
    let p = and_both (leb 128 above && leb 128 left) (leb 1 corner) e in
    let q = and_both (leb 128 above) (leb 128 left) p.0 in
    (leb-true _ _ q.0, leb-true _ _ q.1, leb-true _ _ p.1)

pub accepted : (plane : List Float) (W H : ℕ) (s : IntraRefSpec) (above left corner : ℕ) → refs_answer plane W H s above left corner ≡ done
    → Accepted plane W s above left corner
unfolding refs_answer
accepted plane W H s above left corner e =
    let all = all-kept (refs_rules plane W H s above left corner) e in
    let parts = kept_append (size_rules s ++ place_rules W H s) (outputs_long above left corner else ShortList ∷ read_rules plane W s) all.1 in
    let first = kept_append (size_rules s) (place_rules W H s) parts.0 in
    record {
      place = placed (length plane) W H s all.0 (standing W H s first.0 first.1);
      read = parts.1.1.0;
      long = long-all above left corner parts.1.0;
    }
