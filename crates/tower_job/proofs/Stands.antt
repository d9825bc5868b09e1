-- What a tower's job that no rule before 8 refuses can count on, by its mode; and that its plane is one of the three. Assumes nothing.
use mathlib.Core.Path.{◌≡◌, refl, sym, ◌∙◌, ap}
use mathlib.Core.Bool.{Bool, true, false, not, ◌&&◌, true≢false}
use Prim.Native.Nat.{ℕ, ◌+◌, ◌-◌, ◌*◌, ◌≤◌}
use native.Mathlib.Decide.{ℕ_discrete}
use native.Mathlib.Omega.{arith}
use lib.Dec.{leb, eqb}
use borrow.Author.Tests.{leb-true, le-leb}
use Rattle.numbers.specs.Answer.{is_done}
use Rattle.refusals.proofs.Ladder.{all_of}
use Rattle.signed.proofs.Range.{and_both}
use Rattle.edge_line.proofs.Every.{and-of}
use Rattle.colour_terms.specs.Reference.{is_sizes, is_held, is_reference, is_lines}
use Rattle.colour_rules.specs.Rules.{is_placed, has_lines}
use Rattle.colour_rules.proofs.Granted.{placed}
use Rattle.colour_words.specs.declared.ColourWords.{ColourWords}
use Rattle.colour_words.specs.Colour.{colour_block}
use Rattle.colour_words.specs.Placed.{ColourPlaced}
use Rattle.job.specs.Row.{Row, spec_of}
use Rattle.job.specs.Rules.{stands}
use Rattle.tower_job.specs.Row.{base_row, plane_of, is_colour_mode, colour_of_row}
use Rattle.tower_job.specs.Tests.{is_spare, is_tower, is_span, is_in_planes, is_colour_lines}
use Rattle.tower_job.specs.Rules.{colour_rules, tower_stands}
use Rattle.tower_job.proofs.Answers.{by-colour, tower-base, tower-not, not_done}

span : (start before n end : ℕ) → is_span start before n end ≡ true → (before ≤ start) × (start - before + n ≤ end)
unfolding is_span
span start before n end e = let t = and_both (leb before start) (leb (start - before + n) end) e in (leb-true _ _ t.0, leb-true _ _ t.1)

whole : (start n end : ℕ) → is_span start 0 n end ≡ true → start + n ≤ end
whole start n end e = let t = (span start 0 n end e).1 in omega (arith, t)

module _ (W H : ℕ) (c : ColourWords) where
  -- 4
  spans : is_in_planes W H c ≡ true → (c.luma_x + c.ref_width ≤ W) × (c.luma_y + c.ref_height ≤ H)
      × (c.left_lines ≤ c.x) × (c.x - c.left_lines + c.ref_width ≤ W)
      × (c.above_lines ≤ c.y) × (c.y - c.above_lines + c.ref_height ≤ H) × (c.x + c.width ≤ W) × (c.y + c.height ≤ H)
  unfolding is_in_planes
  spans e =
      let p5 = and_both _ (is_span c.y 0 c.height H) e in
      let p4 = and_both _ (is_span c.x 0 c.width W) p5.0 in
      let p3 = and_both _ (is_span c.y c.above_lines c.ref_height H) p4.0 in
      let p2 = and_both _ (is_span c.x c.left_lines c.ref_width W) p3.0 in
      let p1 = and_both (is_span c.luma_x 0 c.ref_width W) (is_span c.luma_y 0 c.ref_height H) p2.0 in
      let x = span _ _ _ _ p2.1 in
      let y = span _ _ _ _ p3.1 in
      (whole _ _ _ p1.0, whole _ _ _ p1.1, x.0, x.1, y.0, y.1, whole _ _ _ p4.1, whole _ _ _ p5.1)

  -- 11 as prediction has it, of a list that holds the rows
  reference : is_sizes c.ref_width c.ref_height ≡ true → is_reference c.ref_width c.ref_height (c.ref_height * 256) ≡ true
  unfolding is_reference is_held
  reference e = and-of (is_sizes c.ref_width c.ref_height) _ e (le-leb (c.ref_height * 256) (c.ref_height * 256) (omega arith))

  sizes : is_sizes c.ref_width c.ref_height ≡ true → (c.ref_width ≤ 256) × (c.ref_height ≤ 256)
  unfolding is_sizes
  sizes e = let t = and_both (leb c.ref_width 256) (leb c.ref_height 256) e in (leb-true _ _ t.0, leb-true _ _ t.1)

module _ (W H n : ℕ) (row : Row) where
  -- mode 5: both windows and the block lie in the planes
  pub colour-placed : is_colour_mode row ≡ true → tower_stands W H n row ≡ true → ColourPlaced W H (colour_of_row row)
  unfolding tower_stands is_colour_lines
  colour-placed m e =
      let c = colour_of_row row in
      let k = all_of (colour_rules W H row) (ap is_done (sym (by-colour W H n row m)) ∙ e) in
      let s = spans W H c k.1.1.0 in
      let r = sizes W H c k.1.1.1.1.0 in
      let l = and_both (is_lines c.above_lines c.left_lines) _ k.1.1.1.1.1.0 in
      let a = and_both (is_placed (colour_block c) && has_lines (colour_block c)) (leb (c.left_lines + c.width) c.ref_width) l.1 in
      let b = and_both (is_placed (colour_block c)) (has_lines (colour_block c)) a.0 in
      let g = placed (colour_block c) _ (reference W H c k.1.1.1.1.0) l.0 b.0 b.1 in
      record {
        is-depth = k.0;
        is-colour = k.1.1.1.0;
        luma-across = s.0;
        luma-down = s.1;
        left_in = s.2;
        above_in = s.4;
        chroma-across = s.3;
        chroma-down = s.5;
        across = s.6;
        down = s.7;
        window-wide = r.0;
        window-high = r.1;
        few-above = g.above;
        few-left = g.left;
        wide = g.wide;
        high = g.high;
        block-across = leb-true _ _ a.1;
        block-down = g.down;
        top = g.top;
        side = g.side;
      }

  -- 3 is kept in every mode
  pub stands-tower : tower_stands W H n row ≡ true → is_tower row ≡ true
  unfolding tower_stands
  stands-tower e = go (is_colour_mode row) refl
    where
      base : (b : Bool) → is_colour_mode row ≡ false → is_tower row ≡ b → is_tower row ≡ true
      base true m t = t
      base false m t = absurd (true≢false (sym e ∙ ap is_done (tower-not W H n row m t) ∙ not_done (spec_of (base_row row))))

      go : (b : Bool) → is_colour_mode row ≡ b → is_tower row ≡ true
      go true m = (all_of (colour_rules W H row) (ap is_done (sym (by-colour W H n row m)) ∙ e)).1.0
      go false m = base (is_tower row) m refl

  -- the other modes: the first library's rules are kept
  pub base-stands : is_colour_mode row ≡ false → tower_stands W H n row ≡ true → stands W H n (base_row row) ≡ true
  unfolding stands tower_stands
  base-stands m e = ap is_done (sym (tower-base W H n row m (stands-tower e))) ∙ e

  pub plane-known : tower_stands W H n row ≡ true → plane_of row ≤ 2
  unfolding is_tower
  plane-known e =
      let p4 = and_both _ (is_spare row) (stands-tower e) in
      let p3 = and_both _ _ p4.0 in
      let p2 = and_both _ _ p3.0 in
      leb-true _ _ (and_both (leb (plane_of row) 2) _ p2.0).0

  -- "mode 5 on plane 0" is refused
  pub colour-plane : is_colour_mode row ≡ true → tower_stands W H n row ≡ true → 1 ≤ plane_of row
  unfolding is_tower
  colour-plane m e =
      let p4 = and_both _ (is_spare row) (stands-tower e) in
      let p3 = and_both _ _ p4.0 in
      let p2 = and_both _ _ p3.0 in
      let off = (and_both (leb (plane_of row) 2) (not (is_colour_mode row && eqb (plane_of row) 0)) p2.0).1 in
      elim (ℕ_discrete (plane_of row) 0) [
        | yes z ↦ absurd (true≢false (sym off ∙ rw (m, z)))
        | no z ↦ omega arith
      ]
