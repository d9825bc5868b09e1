-- What `derive_params` gives: "where three parameters would be returned they are zeros" when it refuses (document 01, Refusal numbers).
use Rattle.std.specs.Prelude.{Bool, List, ◌∷◌, ℕ, leb, ℤ, pos, length, drop, Result, Ok, Err}
use Rattle.numbers.specs.Answer.{Answer, done}
use Rattle.numbers.specs.Colour.{the_colour}
use Rattle.numbers.specs.declared.answer.Refusal.{Refusal}
use Rattle.numbers.specs.declared.colour.ColourDirection.{ColourDirection}
use Rattle.refusals.specs.Ladder.{ladder, yields}
use Rattle.refusals.specs.Promise.{lent, Promise}
use Rattle.elimination.specs.declared.Params.{Params}
use Rattle.colour_terms.specs.Terms.{entry}
use Rattle.colour_sums.specs.Sum.{sums_of, count_of}
use Rattle.colour_sums.specs.declared.window.Window.{Window}
use Rattle.colour_solve.specs.Shift.{params_of}
use Rattle.colour_params.specs.Rules.{sample_rules, derive_answer}
use Rattle.colour_params.specs.declared.Derived.{Derived}

-- the parameters of a window that is accepted
unfoldable pub window_params : (ℕ → ℕ → ℤ) → (ℕ → ℕ → ℤ) → Window → ColourDirection → ℕ → Params
window_params luma chroma w direction D = params_of D (count_of w) (sums_of D direction luma chroma w)

-- what goes with an answer: the parameters, or the refusal
abbrev pub answered : (ℕ → ℕ → ℤ) → (ℕ → ℕ → ℤ) → Window → ColourDirection → ℕ → Answer → Result Params Refusal
answered luma chroma w direction D a = yields a (window_params luma chroma w direction D)

-- of a window that passed the tests before 13
unfoldable pub sampled : (ℕ → ℕ → ℤ) → (ℕ → ℕ → ℤ) → Window → ColourDirection → ℕ → Result Params Refusal
sampled luma chroma w direction D = answered luma chroma w direction D (ladder (sample_rules luma chroma w direction D))

-- ---- of reference lists: the parameters of one that is accepted, and what any input gives
abbrev pub list_params : List ℤ → List ℤ → Window → ℕ → ℕ → Params
list_params luma chroma w direction D = window_params (entry luma) (entry chroma) w (the_colour direction) D

unfoldable pub derived : List ℤ → List ℤ → Window → ℕ → ℕ → Bool → Result Params Refusal
derived luma chroma w direction D room =
    answered (entry luma) (entry chroma) w (the_colour direction) D (derive_answer luma chroma w direction D room)

abbrev pub zeros : Params
zeros = record { x0 = pos 0; x1 = pos 0; x2 = pos 0 }

-- what `derive_params` returns of it: the parameters beside the answer, zeros beside a refusal
abbrev pub with_zeros : Result Params Refusal → Derived
with_zeros (Ok params) = record { answer = done; params = params }
with_zeros (Err refusal) = record { answer = Err refusal; params = zeros }

-- the parameters at the front of a list, whose tail is kept
abbrev pub written : Params → List ℤ → List ℤ
written p xs = p.x0 ∷ p.x1 ∷ p.x2 ∷ drop 3 xs

-- of a call that writes them: its answer r, and the list before and after
abbrev pub Written : List ℤ → List ℤ → Window → ℕ → ℕ → List ℤ → List ℤ → Answer → Type 0
Written luma chroma w direction D before after r =
    Promise (derive_answer luma chroma w direction D (leb 3 (length before)))
    (lent (derive_answer luma chroma w direction D (leb 3 (length before))) (written (list_params luma chroma w direction D) before) before)
    r after
