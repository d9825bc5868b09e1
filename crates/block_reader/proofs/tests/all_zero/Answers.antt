-- `all_zero` meets its contract: the largest of the bytes is zero exactly when they all are. Assumes nothing.
use mathlib.Core.Path.{◌≡◌, refl, sym, ◌∙◌, ap}
use mathlib.Core.List.{List}
use Prim.Native.Nat.{ℕ, zero, suc, ◌+◌, ◌-◌, ◌≤◌, max}
use native.Mathlib.Omega.{arith}
use native.Mathlib.Numerals.{add-one}
use borrow.Author.Rules.{rules}
use borrow.Author.Tests.{tests}
use lib.Dec.{eqb}
use lib.ListN.{length, get_or, take, drop, length-drop}
use lib.Seq.{get_or-drop}
use Rattle.std.specs.List.{fold}
use Rattle.std.proofs.iter.Yields.{fronts}
use Rattle.std.proofs.lemmas.Fn.{fold_over}
use Rattle.std.proofs.lemmas.Iterator.{YieldsList-from_slice}
use Rattle.std.proofs.lemmas.List.Sums.{fold_push, fold_more}
use Rattle.block_image.specs.Rules.{bytes_from, all_zero}
use Rattle.block_image.proofs.Zeros.{zero-none, zero_more}
use Rattle.block_reader.proofs.tests.all_zero.Goals as goal

-- of the n bytes from s on
largest-zero : (bytes : List ℕ) (o i n : ℕ) → o + i + n ≤ length bytes
    → eqb (fold max 0 (take n (drop (o + i) bytes))) 0 ≡ all_zero (bytes_from bytes o) i n
largest-zero bytes o i zero h = sym (zero-none _ _)
largest-zero bytes o i (suc n) h =
    let xs = drop (o + i) bytes in
    let more = fold_more max 0 xs n 0 (rw length-drop (omega arith)) in
    let at : get_or xs n 0 ≡ bytes_from bytes o (i + n) = get_or-drop (o + i) bytes n 0 ∙ ap (λ p. get_or bytes p 0) (omega arith) in
    ap (λ x. eqb x 0) (rw add-one at more) ∙ ap (λ x. eqb (max (fold max 0 (take n xs)) x) 0) at
    ∙ zero_more (bytes_from bytes o) i n _ (largest-zero bytes o i n (omega arith))

pub returns : goal.returns
returns c =
    let a = c.args in
    let xs = take (a.o + a.i + a.n - (a.o + a.i)) (drop (a.o + a.i) a.bytes.now) in
    let e : c.fold-largest.result ≡ fold max 0 xs =
    fold_over fronts (λ y. y.now) _ (λ ys a. a ≡ fold max 0 ys) _
    (λ ys a x b f' e k. let m : b ≡ max a x.now = search (rules, tests) in (m ∙ ap (λ t. max t x.now) e ∙ sym (fold_push max 0 ys x.now), search rules))
    c.iter.result xs _ _ (YieldsList-from_slice xs c.iter.ensures.rest).runs refl c.fold-largest.ensures.ran in
    let n : a.o + a.i + a.n - (a.o + a.i) ≡ a.n = omega arith in
    ap (λ x. eqb x 0) (e ∙ ap (λ n. fold max 0 (take n (drop (a.o + a.i) a.bytes.now))) n) ∙ largest-zero a.bytes.now a.o a.i a.n (omega arith)
