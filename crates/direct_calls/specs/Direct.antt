-- "direct predictor calls 1, 2, 3, 9, 8": what they test, in that order, and what they promise.
use Rattle.std.specs.Prelude.{ℕ, ◌*◌, Bool, true, ◌&&◌, List, [], ◌∷◌, leb, ℤ, pos, Float, length}
use Rattle.numbers.specs.Size.{is_size}
use Rattle.numbers.specs.Depth.{is_depth, most}
use Rattle.numbers.specs.declared.answer.Refusal.TheVariants.{BadSize, BadDepth, BadMode, ShortList, BadSample}
use Rattle.signed.specs.Range.{inside, all_inside}
use Rattle.lists.specs.Block.{block}
use Rattle.refusals.specs.Ladder.{Rule, ◌else◌, ladder}
use Rattle.refusals.specs.Promise.{lent, Promise}
use Rattle.numbers.specs.Answer.{Answer}

-- "an edge list under 2B entries, an output under B x B"
unfoldable pub lists_long : ℕ → ℕ → ℕ → ℕ → Bool
lists_long B above left out = leb (2 * B) above && leb (2 * B) left && leb (B * B) out

-- "want 2B entries in both edges and test all of them and the corner"
unfoldable pub entries_in_range : ℕ → ℤ → List ℤ → List ℤ → ℤ → Bool
entries_in_range B M above left k = all_inside M above (2 * B) && all_inside M left (2 * B) && inside M k

-- the rules of a call whose output has n entries; `named` says that the words of its mode name one, and is true where a call takes no mode
abbrev pub direct_rules : ℕ → ℕ → Bool → List ℤ → List ℤ → ℤ → ℕ → List Rule
direct_rules B D named above left k n =
    is_size B else BadSize ∷
    is_depth D else BadDepth ∷
    named else BadMode ∷
    lists_long B (length above) (length left) n else ShortList ∷
    entries_in_range B (pos (most D)) above left k else BadSample ∷ []

unfoldable pub direct_answer : ℕ → ℕ → Bool → List ℤ → List ℤ → ℤ → ℕ → Answer
direct_answer B D named above left k n = ladder (direct_rules B D named above left k n)

-- a predictor: its sample at row r and column c, from B, the edges and the corner
abbrev pub Predictor : Type 0
Predictor = ℕ → List ℤ → List ℤ → ℤ → ℕ → ℕ → ℤ

-- what a predictor's call promises of its answer r, and of the output before and after
abbrev pub PredictedBy : Bool → Predictor → ℕ → ℕ → List ℤ → List ℤ → ℤ → List Float → List Float → Answer → Type 0
PredictedBy named at B D above left k before after r =
    Promise (direct_answer B D named above left k (length before))
    (lent (direct_answer B D named above left k (length before)) (block B B (at B above left k) before) before)
    r after

-- the same of a call that takes no mode
abbrev pub Predicted : Predictor → ℕ → ℕ → List ℤ → List ℤ → ℤ → List Float → List Float → Answer → Type 0
Predicted at B D above left k before after r = PredictedBy true at B D above left k before after r
