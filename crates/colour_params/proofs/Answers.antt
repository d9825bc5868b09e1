-- What the answer is, test by test, and what a window that passes them has. Assumes nothing.
use mathlib.Core.Path.{◌≡◌, refl, sym, ap}
use mathlib.Core.Bool.{Bool, true}
use mathlib.Core.List.{List, [], ◌∷◌}
use Prim.Native.Nat.{ℕ, ◌≤◌}
use native.Mathlib.Omega.{arith}
use lib.IntN.{ℤ}
use lib.ListN.{length, set}
use Rattle.std.specs.Prelude.{Ok, Err}
use Rattle.numbers.specs.Answer.{done}
use Rattle.numbers.specs.Colour.{the_colour}
use Rattle.numbers.specs.Depth.{is_depth, depth_of}
use Rattle.numbers.specs.declared.answer.Refusal.{Refusal}
use Rattle.numbers.proofs.Agree.{depth-else}
use Rattle.signed.proofs.Range.{and_both}
use Rattle.refusals.specs.Ladder.{Rule, ladder}
use Rattle.refusals.proofs.Ladder.{all-kept, ladder-ok, ladder-err}
use Rattle.refusals.proofs.Yields.{yields-err, yielded, yield-refused}
use Rattle.colour_terms.specs.Reference.{is_sizes, is_held}
use Rattle.colour_terms.specs.Terms.{entry}
use Rattle.colour_terms.proofs.Granted.{sizes-all, held_all}
use Rattle.elimination.specs.declared.Params.{Params}
use Rattle.colour_sums.specs.Sum.{Laid}
use Rattle.colour_sums.specs.declared.window.Window.{Window}
use Rattle.colour_params.specs.Rules.{are_references, window_rules, sample_rules, derive_rules, derive_answer}
use Rattle.colour_params.specs.Derived.{list_params, answered, sampled, derived, written}

pub laid : (w : Window) (luma chroma : List ℤ) → are_references w (length luma) (length chroma) ≡ true → Laid w luma chroma
unfolding are_references
laid w luma chroma e =
    let p = and_both (is_sizes w.ref_width w.ref_height) _ e in
    let s = sizes-all _ _ p.0 in
    let h = and_both (is_held w.ref_height (length luma)) (is_held w.ref_height (length chroma)) p.1 in
    record { wide = s.0; high = s.1; luma-long = held_all _ _ h.0; chroma-long = held_all _ _ h.1 }

module _ (luma chroma : List ℤ) (w : Window) (direction D : ℕ) (room : Bool) where
  abbrev rules : List Rule
  rules = window_rules (length luma) (length chroma) w direction room

  -- a window that passes 10, 11, 12 and 9
  pub passed : ladder rules ≡ done → Laid w luma chroma
  passed e = laid w luma chroma (all-kept rules e).1.0

  -- one that is accepted has room for its parameters
  pub room-kept : derive_answer luma chroma w direction D room ≡ done → room ≡ true
  unfolding derive_answer
  room-kept e = (all-kept (derive_rules luma chroma w direction D room) e).1.1.1.1.0

  -- the answer
  pub answer-depth : (r : Refusal) → Err r ≡ depth_of D → derive_answer luma chroma w direction D room ≡ Err r
  unfolding derive_answer
  answer-depth r e = sym (depth-else D _ e)

  pub answer-window : (r : Refusal) → is_depth D ≡ true → ladder rules ≡ Err r → derive_answer luma chroma w direction D room ≡ Err r
  unfolding derive_answer
  answer-window r e n = simp e (ladder-err rules (sample_rules (entry luma) (entry chroma) w (the_colour direction) D) r n)

  pub answer-samples : is_depth D ≡ true → ladder rules ≡ done
      → derive_answer luma chroma w direction D room ≡ ladder (sample_rules (entry luma) (entry chroma) w (the_colour direction) D)
  unfolding derive_answer
  answer-samples e n = simp e (ladder-ok rules (sample_rules (entry luma) (entry chroma) w (the_colour direction) D) tt n)

  -- what is returned
  pub derived-refused : (r : Refusal) → derive_answer luma chroma w direction D room ≡ Err r → Err r ≡ derived luma chroma w direction D room
  unfolding derived
  derived-refused r e = yields-err (list_params luma chroma w direction D) (sym e)

  pub derived-samples : derive_answer luma chroma w direction D room ≡ ladder (sample_rules (entry luma) (entry chroma) w (the_colour direction) D)
      → sampled (entry luma) (entry chroma) w (the_colour direction) D ≡ derived luma chroma w direction D room
  unfolding sampled derived
  derived-samples e = ap (answered (entry luma) (entry chroma) w (the_colour direction) D) (sym e)

  -- and what it says of the answer
  pub derived-err : (r : Refusal) → Err r ≡ derived luma chroma w direction D room → Err r ≡ derive_answer luma chroma w direction D room
  unfolding derived
  derived-err r e = sym (yield-refused (derive_answer luma chroma w direction D room) (list_params luma chroma w direction D) (sym e))

  pub derived-ok : (p : Params) → Ok p ≡ derived luma chroma w direction D room
      → (done ≡ derive_answer luma chroma w direction D room) × (p ≡ list_params luma chroma w direction D)
  unfolding derived
  derived-ok p e =
      let y = yielded (derive_answer luma chroma w direction D room) (list_params luma chroma w direction D) p (sym e) in
      (sym y.0, y.1)

-- three stores at the front of a list
pub three-stores : (p : Params) (xs : List ℤ) → 3 ≤ length xs → set (set (set xs 0 p.x0) 1 p.x1) 2 p.x2 ≡ written p xs
three-stores p (a ∷ b ∷ c ∷ xs) h = refl
three-stores p [] h = absurd (omega arith)
three-stores p (a ∷ []) h = absurd (omega arith)
three-stores p (a ∷ b ∷ []) h = absurd (omega arith)
