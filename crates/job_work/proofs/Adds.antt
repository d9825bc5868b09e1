-- The predicted block of a job that is not refused is of whole numbers, and what is written of it with the differences is what the definition names.
-- Assumes nothing.
use mathlib.Core.Path.{◌≡◌, sym, ◌∙◌, ap, subst}
use mathlib.Core.Bool.{true}
use mathlib.Core.List.{List}
use Prim.Native.Nat.{ℕ, ◌+◌, ◌*◌, ◌/◌, ◌%◌, ◌≤◌, ◌<◌}
use native.Mathlib.Nat.{div-add-mod', div-lt_iff_lt-mul, mod-lt}
use native.Mathlib.Omega.{arith}
use lib.Arith.{digits_lt}
use lib.IntN.{ℤ, pos, nat_abs, ◌+ℤ◌}
use lib.Ieee.{Float, nan, to_signed}
use lib.ListN.{length, get_or}
use Rattle.numbers.specs.Depth.{most}
use Rattle.signed.specs.Range.{inside}
use Rattle.signed.proofs.Range.{inside-abs, inside-pos, pos-inside}
use Rattle.lists.specs.Block.{sample, block}
use Rattle.lists.proofs.Block.{block-length, block-at}
use Rattle.direct_calls.proofs.Accepted.{depth-most}
use Rattle.taps.specs.Interp.{clip}
use Rattle.touches.specs.Touches.{block_at}
use Rattle.job.specs.declared.job.Job.{Job}
use Rattle.job_work.specs.Written.{predicted_at, written_at}
use Rattle.paint.specs.Painted.{painted}
use Rattle.paint.specs.Block.{Whole, Wholes, added_at, Room}
use Rattle.job_work.specs.Granted.{Granted}
use Rattle.modes.proofs.Inside.{predicted-inside}
use Rattle.paint.proofs.Cast.{whole-cast}
use Rattle.paint.proofs.Painted.{painted_same}
use Rattle.job_work.proofs.Granted.{room, given}

module _ {W n : ℕ} {job : Job} {plane : List Float} (g : Granted W n job plane) where
  abbrev B : ℕ
  B = job.spec.b

  abbrev M : ℕ
  M = most job.spec.d

  module _ (out : List Float) where
    abbrev predicted : List Float
    predicted = block B B (predicted_at W job plane) out

    at_place : (r c : ℕ) → r < B → c < B → (w : Whole (get_or predicted (r * B + c) nan)) × (pos w.number ≡ predicted_at W job plane r c)
    at_place r c hr hc =
        let z = predicted_at W job plane r c in
        let i : inside (pos M) z ≡ true = predicted-inside job _ _ _ (given g (B * B) (omega arith)) r c hr hc in
        let e : z ≡ pos (nat_abs z) = inside-pos M z i in (
          record {
            number = nat_abs z;
            small = omega (arith, inside-abs M z i, depth-most job.spec.d g.tested.place.stands.is-depth);
            is = block-at B B (predicted_at W job plane) out r c hr hc ∙ ap sample e;
          },
          sym e,
        )

    pub reads-back : (r c : ℕ) → r < B → c < B → to_signed 31 (get_or predicted (r * B + c) nan) ≡ predicted_at W job plane r c
    reads-back r c hr hc = let p = at_place r c hr hc in (whole-cast _ p.0).1 ∙ p.1

    pub wholes : Wholes (B * B) predicted
    wholes i h =
        let p = g.tested.place.stands.side.0 in
        subst (λ t. Whole (get_or predicted t nan)) (div-add-mod' i B) (at_place (i / B) (i % B) ((div-lt_iff_lt-mul p).1 h) (mod-lt i p)).0

    -- the block as it is written, from a list of differences that starts at the job's own
    pub written : (differences part : List ℤ) → ((i : ℕ) → i < B * B → get_or part i (pos 0) ≡ get_or differences (job.start + i) (pos 0))
        → painted W (block_at job.spec) (λ r c. added_at (pos M) predicted part (r * B + c)) plane ≡ painted W (block_at job.spec) (written_at W differences job plane) plane
    unfolding written_at
    written differences part same =
        painted_same W (block_at job.spec) _ _ plane
        (λ r c hr hc. λ j. sample (clip (pos M) (reads-back r c hr hc j +ℤ same (r * B + c) (digits_lt hr hc) j)))

  -- ---- what writing the block asks and gives, where what was predicted is known by an equation
  module _ (m : ℤ) (out after : List Float) (differences part : List ℤ) (em : m ≡ pos M)
      (eo : after ≡ block B B (predicted_at W job plane) out) (lo : B * B ≤ length out) (lp : B * B ≤ length part) where
    pub write-asks : (Room (length plane) W job.spec.x job.spec.y B × (B * B ≤ length after) × (B * B ≤ length part)) × (Wholes (B * B) after × (inside (pos 4095) m ≡ true))
    write-asks =
        rw (em, eo) (
          (room g.tested, omega (arith, block-length B B (predicted_at W job plane) out lo), lp),
          (wholes out, pos-inside 4095 M (depth-most job.spec.d g.tested.place.stands.is-depth)),
        )

    pub write-gives : (end : List Float) → end ≡ painted W (block_at job.spec) (λ r c. added_at m after part (r * B + c)) plane
        → ((i : ℕ) → i < B * B → get_or part i (pos 0) ≡ get_or differences (job.start + i) (pos 0))
        → end ≡ painted W (block_at job.spec) (written_at W differences job plane) plane
    write-gives end r same =
        r ∙ (λ j. painted W (block_at job.spec) (λ r c. added_at (em j) (eo j) part (r * B + c)) plane) ∙ written out differences part same
