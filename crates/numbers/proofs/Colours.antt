-- The two ways agree for the colour directions: the case of a case's number is that case, and the number of the case that is found is the number
-- that was looked for. Assumes nothing.
use mathlib.Core.Path.{◌≡◌, refl, ap}
use mathlib.Core.Bool.{true, false, cond}
use Prim.Native.Nat.{ℕ}
use Rattle.numbers.specs.Colour.{colour_number, colours, colour_of, or_centre, the_colour, is_colour}
use Rattle.numbers.specs.declared.colour.ColourDirection.{ColourDirection}
use Rattle.numbers.specs.declared.colour.ColourDirection.TheVariants.{Centre, Above, Left}
use Rattle.std.specs.Prelude.{Result, Ok, Err}
use Rattle.numbers.specs.declared.answer.Refusal.TheVariants.{BadColourDirection}
use Rattle.numbers.proofs.Look.{look-back, look-yes, look-no, look-else, ok-same, err-ok}
use Rattle.numbers.specs.declared.answer.Refusal.{Refusal}

pub colour-there : (e : ColourDirection) → colour_of (colour_number e) ≡ Ok e
colour-there Centre = refl
colour-there Above = refl
colour-there Left = refl

pub colour-back : (n : ℕ) (e : ColourDirection) → colour_of n ≡ Ok e → colour_number e ≡ n
colour-back n e h = look-back colour_number Ok (Err BadColourDirection) ok-same (err-ok BadColourDirection) colours n e h

-- the case that the code finds is the one that the definitions take
pub colour-the : (n : ℕ) (e : ColourDirection) → colour_of n ≡ Ok e → the_colour n ≡ e
colour-the n e h = ap or_centre h

-- the test, and what the code finds
pub colour-yes : (n : ℕ) (e : ColourDirection) → colour_of n ≡ Ok e → is_colour n ≡ true
unfolding is_colour
colour-yes n e h = look-yes colour_number Ok (Err BadColourDirection) ok-same (err-ok BadColourDirection) colours n e h

pub colour-no : (n : ℕ) {r : Refusal} → colour_of n ≡ Err r → is_colour n ≡ false
unfolding is_colour
colour-no n h = look-no colour_number BadColourDirection colours n h

pub colour-else : {A : Type 0} (n : ℕ) {r : Refusal} (later : Result A Refusal)
    → Err r ≡ colour_of n → Err r ≡ cond (is_colour n) later (Err BadColourDirection)
unfolding is_colour
colour-else n later h = look-else colour_number BadColourDirection colours n later h
