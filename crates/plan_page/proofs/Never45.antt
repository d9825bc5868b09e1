-- A file is accepted, or refused by one of 40 to 44: where there is room for every plan, 45 cannot arise. Assumes nothing.
use mathlib.Core.Path.{◌≡◌, refl, sym, ◌∙◌, ap, subst}
use mathlib.Core.Bool.{Bool, true, false, cond, ◌&&◌}
use mathlib.Core.List.{List, [], ◌∷◌}
use mathlib.Core.Logic.{◌⊎◌, inl, inr}
use Prim.Native.Nat.{ℕ, zero, suc, ◌+◌, ◌*◌, ◌≤◌}
use native.Mathlib.Nat.{mul-le-mul_right}
use native.Mathlib.Omega.{arith}
use lib.Dec.{eqb}
use lib.ListN.{length}
use borrow.Author.Tests.{le-leb}
use Rattle.numbers.specs.Limits.{most_jobs}
use Rattle.std.specs.Prelude.{Ok, Err}
use Rattle.numbers.specs.Answer.{answer_number, is_done, done, Answer}
use Rattle.numbers.specs.declared.answer.Refusal.TheVariants.{BadCheck, OutOfTurn, BadUsed, NotZero, NoRoom}
use Rattle.refusals.specs.Ladder.{Rule, ◌else◌, ladder}
use Rattle.refusals.proofs.Ladder.{ladder-append}
use Rattle.block_image.specs.Rules.{block_bytes, is_whole}
use Rattle.block_image.specs.Taken.{blocks_in, WholeFile, rows_of}
use Rattle.block_image.specs.Refusals.{block_rules, blocks_rules, has_room}
use Rattle.block_image.specs.declared.format.Format.{Format}
use Rattle.block_image.proofs.Steps.{not-blocks, block_refused, all-passed}
use Rattle.block_image.proofs.WholeFile.{accepted-of, rows_few}
use Rattle.plan_page.specs.Page.{answer_of_file}

-- done, or 40 to 44
abbrev pub OfFile : Answer → Type 0
OfFile a = (a ≡ done) ⊎ ((40 ≤ answer_number a) × (answer_number a ≤ 44))

pick : (b : Bool) {x y : Answer} → OfFile x → OfFile y → OfFile (cond b x y)
pick true p q = p
pick false p q = q

-- rules whose refusals are all of 40 to 44
abbrev Each : List Rule → Type 0
Each [] = Unit
Each ((kept else refusal) ∷ rules) = OfFile (Err refusal) × Each rules

of-ladder : (rules : List Rule) → Each rules → OfFile (ladder rules)
of-ladder [] e = inl refl
of-ladder ((kept else refusal) ∷ rules) e = pick kept (of-ladder rules e.1) e.0

split : {A : Type 0} (b : Bool) → (b ≡ true → A) → (b ≡ false → A) → A
split true f g = f refl
split false f g = g refl

module _ (F : Format) (bytes : List ℕ) where
  of-block : (last : Bool) (k : ℕ) (at : ℕ → ℕ) → OfFile (ladder (block_rules F last k at))
  of-block last k at =
      let zeros : OfFile (Err NotZero) = inr (omega arith, omega arith) in
      let used : OfFile (Err BadUsed) = inr (omega arith, omega arith) in
      let turn : OfFile (Err OutOfTurn) = inr (omega arith, omega arith) in
      let check : OfFile (Err BadCheck) = inr (omega arith, omega arith) in
      of-ladder (block_rules F last k at) (check, (turn, (used, (zeros, tt))))

  of_blocks : (n : ℕ) → OfFile (ladder (blocks_rules F bytes n))
  unfolding blocks_rules
  of_blocks zero = inl refl
  of_blocks (suc n) =
      let rules = block_rules F (eqb (n + 1) (blocks_in bytes)) n (block_bytes bytes n) in
      subst OfFile (sym (ladder-append (blocks_rules F bytes n) rules))
      (pick (is_done (ladder (blocks_rules F bytes n))) (of-block _ n (block_bytes bytes n)) (of_blocks n))

  -- a file that is accepted holds no more than every plan does
  pub room-for-all : WholeFile F bytes → has_room (rows_of F bytes * F.words) (most_jobs * F.words) 1 ≡ true
  unfolding has_room
  room-for-all good = ap (λ b. b && true) (le-leb (rows_of F bytes * F.words) (most_jobs * F.words) (mul-le-mul_right F.words (rows_few F bytes good)))

  of-whole : is_whole F (length bytes) ≡ true → OfFile (answer_of_file F bytes)
  of-whole w = go (ladder (blocks_rules F bytes (blocks_in bytes))) refl
    where
      go : (a : Answer) → ladder (blocks_rules F bytes (blocks_in bytes)) ≡ a → OfFile (answer_of_file F bytes)
      go (Ok _) e = inl (all-passed F bytes _ _ w e (room-for-all (accepted-of F bytes w e)))
      go (Err r) e = subst OfFile (e ∙ sym (block_refused F bytes _ _ w e)) (of_blocks (blocks_in bytes))

  pub of-file : OfFile (answer_of_file F bytes)
  of-file = split (is_whole F (length bytes)) of-whole (λ w. subst OfFile (not-blocks F bytes _ _ w) (inr (omega arith, omega arith)))

  pub never-45 : answer_of_file F bytes ≡ Err NoRoom → ⊥
  never-45 e = no (subst OfFile e of-file)
    where
      no : OfFile (Err NoRoom) → ⊥
      no (inl d) = let z : ◌≡◌ {A = ℕ} 45 0 = ap answer_number d in omega arith
      no (inr h) = omega (arith, h.1)
