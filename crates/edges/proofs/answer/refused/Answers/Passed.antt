-- What each test of `refused` has shown where it is passed, and the rules that are left. Assumes nothing.
use mathlib.Core.Path.{◌≡◌, refl}
use mathlib.Core.Bool.{true}
use mathlib.Core.List.{List, ◌∷◌, ◌++◌}
use Prim.Native.Nat.{ℕ}
use lib.Ieee.{Float}
use lib.ListN.{length}
use Rattle.block_spec.specs.declared.spec.IntraRefSpec.{IntraRefSpec}
use Rattle.edges.specs.declared.answer.Lengths.{Lengths}
use Rattle.numbers.specs.Answer.{is_done, Answer}
use Rattle.numbers.specs.declared.answer.Refusal.TheVariants.{ShortList}
use Rattle.refusals.specs.Ladder.{Rule, ◌else◌, ladder}
use Rattle.refusals.proofs.Ladder.{AllKept, kept, all_of, segment-kept}
use Rattle.block_spec.specs.Rules.{is_plane, size_rules, place_rules}
use Rattle.edges.specs.Rules.{outputs_long, refs_answer}
use Rattle.sides.specs.Read.{read_rules}
use Rattle.block_spec.specs.Placed.{Placed}
use Rattle.block_spec.proofs.Placed.{standing, placed}

module _ (plane : List Float) (W H : ℕ) (s : IntraRefSpec) (n : Lengths) where
  abbrev pub answer : Answer
  answer = refs_answer plane W H s n.above n.left n.corner

  abbrev pub sizes : List Rule
  sizes = size_rules s

  abbrev pub places : List Rule
  places = place_rules W H s

  abbrev pub last : List Rule
  last = read_rules plane W s

  abbrev pub late : List Rule
  late = outputs_long n.above n.left n.corner else ShortList ∷ last

  -- ---- what each test has shown where it is passed, and the rules that are left
  module _ (in_plane : is_plane W H (length plane) ≡ true) where
    pub one : answer ≡ ladder (sizes ++ (places ++ late))
    unfolding refs_answer
    one = kept _ _ _ _ in_plane refl

    module _ (sizes-done : is_done (ladder sizes) ≡ true) where
      pub sizes-kept : AllKept sizes
      sizes-kept = all_of sizes sizes-done

      pub two : answer ≡ ladder (places ++ late)
      two = segment-kept sizes (places ++ late) sizes-done one

      module _ (places-done : is_done (ladder places) ≡ true) where
        pub three : answer ≡ ladder late
        three = segment-kept places late places-done two

        pub place : Placed (length plane) W s
        place = placed _ _ H _ in_plane (standing _ _ _ sizes-kept (all_of places places-done))

        pub four : outputs_long n.above n.left n.corner ≡ true → answer ≡ ladder last
        four e = kept _ _ _ _ e three
