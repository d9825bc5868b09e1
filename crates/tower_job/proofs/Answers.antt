-- What the rules of a tower's row come to by its mode, and by whether its new words keep 3. Assumes nothing.
use mathlib.Core.Path.{◌≡◌, refl, ap}
use mathlib.Core.Bool.{Bool, true, false, cond}
use mathlib.Core.List.{[], ◌∷◌, ◌++◌}
use Prim.Native.Nat.{ℕ}
use Rattle.std.specs.Prelude.{Err}
use Rattle.numbers.specs.Answer.{Answer, is_done}
use Rattle.numbers.proofs.Named.{refusal-not-done}
use Rattle.numbers.specs.Depth.{is_depth}
use Rattle.numbers.specs.Size.{is_size}
use Rattle.numbers.specs.declared.answer.Refusal.TheVariants.{BadSize, BadDepth, BadMode}
use Rattle.refusals.specs.Ladder.{◌else◌, ladder}
use Rattle.block_spec.specs.Rules.{size_rules}
use Rattle.block_spec.specs.declared.spec.IntraRefSpec.{IntraRefSpec}
use Rattle.job.specs.Row.{Row, spec_of}
use Rattle.job.specs.Mode.{is_mode}
use Rattle.job.specs.Rules.{row_answer}
use Rattle.tower_job.specs.Row.{base_row, is_colour_mode}
use Rattle.tower_job.specs.Tests.{is_tower}
use Rattle.tower_job.specs.Rules.{base_rules, colour_rules, tower_answer}

module _ (W H n : ℕ) (row : Row) where
  pub by-colour : is_colour_mode row ≡ true → tower_answer W H n row ≡ ladder (colour_rules W H row)
  unfolding tower_answer
  by-colour e = ap (λ b. ladder (cond b (colour_rules W H row) (base_rules W H n row))) e

  pub by-base : is_colour_mode row ≡ false → tower_answer W H n row ≡ ladder (base_rules W H n row)
  unfolding tower_answer
  by-base e = ap (λ b. ladder (cond b (colour_rules W H row) (base_rules W H n row))) e

  -- where the new words keep 3, the first library's answer to the first sixteen words
  pub tower-base : is_colour_mode row ≡ false → is_tower row ≡ true → tower_answer W H n row ≡ row_answer W H n (base_row row)
  unfolding row_answer
  tower-base m e = rw (by-base m, e)

  -- where they break it, 1, 2 and then 3
  pub tower-not : is_colour_mode row ≡ false → is_tower row ≡ false
      → tower_answer W H n row ≡ ladder (size_rules (spec_of (base_row row)) ++ (false else BadMode ∷ []))
  tower-not m e = rw (by-base m, e) (go (spec_of (base_row row)) (is_mode (base_row row)))
    where
      go : (s : IntraRefSpec) (b : Bool) → ◌≡◌ {A = Answer} (cond (is_size s.b) (cond (is_depth s.d) (cond b (Err BadMode) (Err BadMode)) (Err BadDepth)) (Err BadSize))
          (cond (is_size s.b) (cond (is_depth s.d) (Err BadMode) (Err BadDepth)) (Err BadSize))
      go s true = refl
      go s false = refl

-- which is not done
pub not_done : (s : IntraRefSpec) → is_done (ladder (size_rules s ++ (false else BadMode ∷ []))) ≡ false
not_done s = go (is_size s.b) (is_depth s.d)
  where
    go : (a b : Bool) → is_done (cond a (cond b (Err BadMode) (Err BadDepth)) (Err BadSize)) ≡ false
    go true true = refusal-not-done BadMode
    go true false = refusal-not-done BadDepth
    go false b = refusal-not-done BadSize
