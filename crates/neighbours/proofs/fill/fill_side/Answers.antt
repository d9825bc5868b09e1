-- `fill_side` meets its contract: a line's samples and then its last one again, or one number. Assumes nothing.
use borrow.Author.Rules.{sfits_of}
use mathlib.Core.Path.{◌≡◌, sym, ◌∙◌, ap}
use mathlib.Core.Bool.{true, false, cond}
use mathlib.Core.List.{List}
use Prim.Native.Nat.{ℕ, ◌+◌, ◌-◌, ◌*◌, ◌≤◌, ◌<◌}
use native.Mathlib.Omega.{arith}
use lib.Ieee.{Float}
use lib.IntN.{ℤ, pos}
use lib.ListN.{length, get_or}
use mir.Syntax.{w32}
use mir.Val.{to_z}
use Rattle.signed.proofs.Bound.{back}
use Rattle.lists.specs.Fill.{filled}
use Rattle.lists.proofs.Fill.{filled_none, filled-same, filled_at}
use Rattle.samples.specs.Sample.{reading}
use Rattle.edge_line.proofs.Halves.{entry_past}
use Rattle.edge_line.proofs.Onward.{onward-filled}
use Rattle.sides.specs.declared.Side.{Side}
use Rattle.sides.specs.Side.{side_at, side_value, SideLies}
use Rattle.neighbours.proofs.fill.fill_side.Goals as goal
use Rattle.neighbours.proofs.fill.fill_side.Goals.{then-side, else-side}

module _ (plane : List Float) (d : Side) (spare : ℤ) (xs : List ℤ) where
  abbrev value : ℕ → ℤ
  value = side_value plane d spare

  abbrev read : ℕ → ℤ
  read c = pos (reading (side_at plane d c))

  there : d.there ≡ true → (c : ℕ) → read c ≡ value c
  there e c = sym (ap (λ x. cond x (read c) spare) e)

  missing : d.there ≡ false → (c : ℕ) → spare ≡ value c
  missing e c = sym (ap (λ x. cond x (read c) spare) e)

  -- before the repeats: the entries below `end` are written, and those from there on are to be `last`
  record Half (edge : List ℤ) (end : ℕ) (last : ℤ) : Type 0 where
    short : end ≤ 2 * d.bs
    written : edge ≡ filled end value xs
    on : (i : ℕ) → end ≤ i → i < 2 * d.bs → last ≡ value i

  module _ (lies : SideLies (length plane) d) (edge : List ℤ) (end : ℕ) (last : ℤ) where
    after-line : (line : List ℤ) → d.there ≡ true → edge ≡ line → end ≡ d.end → line ≡ filled d.end read xs → last ≡ get_or line (d.end - 1) (pos 0)
        → Half edge end last
    after-line line there-is e n told l =
        let past : d.end - 1 ≡ d.bs + (d.end - d.bs) - 1 = omega (arith, lies.ends) in
        let lines = told ∙ filled-same d.end read value xs (λ i h. there there-is i) in
        record {
          short = omega (arith, n, lies.ends);
          written = e ∙ lines ∙ ap (λ n. filled n value xs) (sym n);
          on = λ i h k.
              l
              ∙ (λ j. get_or (lines j) (d.end - 1) (pos 0))
              ∙ filled_at d.end value xs (d.end - 1) (pos 0) (omega (arith, lies.block, lies.ends))
              ∙ sym (there there-is (d.end - 1))
              ∙ ap read past
              ∙ entry_past (lies.line there-is) plane (λ v. pos (reading v)) i (omega (arith, n, lies.ends))
              ∙ there there-is i;
        }

    after-none : d.there ≡ false → edge ≡ xs → end ≡ 0 → last ≡ spare → Half edge end last
    after-none gone e n l = record {
      short = omega (arith, n);
      written = e ∙ sym (filled_none value xs) ∙ ap (λ n. filled n value xs) (sym n);
      on = λ i h k. l ∙ missing gone i;
    }

pub returns : goal.returns
returns c =
    let d = c.args.side in
    let xs = c.args.edge.now in
    let lies = c.requires.side_lies.0 in
    let j = c.if-side in
    let h : Half c.args.plane.now d c.args.spare xs j.edge j.end (to_z w32 j.last-bits) = elim j.branch [
      | then-side w ↦ after-line c.args.plane.now d c.args.spare xs lies _ _ _ _ w.if-side.true w.edge-is w.end-is w.read_line.ensures (w.last-is ∙ back w32 (sfits_of w.last-1.given))
      | else-side w ↦ after-none c.args.plane.now d c.args.spare xs lies _ _ _ w.if-side.false w.edge-is w.end-is (w.last-is ∙ back w32 c.ranges.spare)
    ] in
    c.repeat_from.ensures
    ∙ onward-filled j.end (2 * d.bs) _ (value c.args.plane.now d c.args.spare xs) xs j.edge h.short (omega (arith, c.requires.side_lies.1, lies.block)) h.written h.on
