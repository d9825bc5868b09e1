-- What a direct call that is not refused can count on, with B and D open. Assumes nothing.
use mathlib.Core.Path.{◌≡◌}
use mathlib.Core.Bool.{Bool, true, ◌&&◌}
use mathlib.Core.List.{List}
use Prim.Native.Nat.{ℕ, ◌*◌, ◌≤◌}
use native.Mathlib.Omega.{arith}
use lib.Dec.{leb}
use lib.IntN.{ℤ, pos}
use lib.ListN.{length}
use borrow.Author.Tests.{leb-true}
use Rattle.numbers.specs.Size.{is_size}
use Rattle.numbers.specs.Depth.{is_depth, most}
use Rattle.numbers.proofs.Agree.{size-all, depth-all}
use Rattle.signed.specs.Range.{inside, all_inside, Edge}
use Rattle.signed.proofs.Range.{and_both, all-inside-at}
use Rattle.refusals.proofs.Ladder.{all-kept}
use Rattle.direct_calls.specs.Direct.{lists_long, entries_in_range, direct_rules, direct_answer}
use Rattle.numbers.specs.Answer.{done}

pub size-most : (B : ℕ) → is_size B ≡ true → B ≤ 64
size-most B e = size-all (λ x. x ≤ 64) B (omega arith) e

pub depth-most : (D : ℕ) → is_depth D ≡ true → most D ≤ 4095
depth-most D e = depth-all (λ x. most x ≤ 4095) D (omega arith) e

pub long-all : (B a l n : ℕ) → lists_long B a l n ≡ true → (2 * B ≤ a) × (2 * B ≤ l) × (B * B ≤ n)
unfolding lists_long
long-all B a l n e =
    let p = and_both (leb (2 * B) a && leb (2 * B) l) (leb (B * B) n) e in
    let q = and_both (leb (2 * B) a) (leb (2 * B) l) p.0 in
    (leb-true _ _ q.0, leb-true _ _ q.1, leb-true _ _ p.1)

pub record Accepted (B D : ℕ) (named : Bool) (above left : List ℤ) (k : ℤ) (n : ℕ) : Type 0 where
  pub size : is_size B ≡ true
  pub depth : is_depth D ≡ true
  pub mode : named ≡ true
  pub above-long : 2 * B ≤ length above
  pub left-long : 2 * B ≤ length left
  pub out-long : B * B ≤ n
  pub above_in : Edge (most D) (2 * B) above
  pub left_in : Edge (most D) (2 * B) left
  pub corner-in : inside (pos (most D)) k ≡ true

pub accepted : (B D : ℕ) (named : Bool) (above left : List ℤ) (k : ℤ) (n : ℕ) → direct_answer B D named above left k n ≡ done
    → Accepted B D named above left k n
unfolding direct_answer entries_in_range
accepted B D named above left k n e =
    let all = all-kept (direct_rules B D named above left k n) e in
    let lo = long-all B (length above) (length left) n all.1.1.1.0 in
    let M = pos (most D) in
    let p = and_both (all_inside M above (2 * B) && all_inside M left (2 * B)) (inside M k) all.1.1.1.1.0 in
    let q = and_both (all_inside M above (2 * B)) (all_inside M left (2 * B)) p.0 in
    record {
      size = all.0;
      depth = all.1.0;
      mode = all.1.1.0;
      above-long = lo.0;
      left-long = lo.1;
      out-long = lo.2;
      above_in = all-inside-at M above (2 * B) q.0;
      left_in = all-inside-at M left (2 * B) q.1;
      corner-in = p.1;
    }
