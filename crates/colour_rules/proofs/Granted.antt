-- What the rules 11 and 12 grant of a block. Assumes nothing.
use mathlib.Core.Path.{◌≡◌, subst}
use mathlib.Core.Bool.{Bool, true, not, ◌&&◌, ◌||◌}
use Prim.Native.Nat.{ℕ, ◌+◌, ◌≤◌}
use lib.Dec.{leb}
use borrow.Author.Tests.{leb-true}
use Rattle.signed.proofs.Range.{and_both}
use Rattle.colour_terms.specs.Reference.{is_reference, is_lines}
use Rattle.colour_terms.specs.Terms.{stride}
use Rattle.colour_terms.proofs.Granted.{reference-all, lines-all}
use Rattle.colour_rules.specs.Rules.{largest_side, is_side, is_placed, has_line, has_lines}
use Rattle.colour_rules.specs.Placed.{InReference}
use Rattle.colour_rules.specs.declared.block.Block.{Block}

pub side-all : (n : ℕ) → is_side n ≡ true → (1 ≤ n) × (n ≤ largest_side)
unfolding is_side
side-all n e = let p = and_both (leb 1 n) (leb n largest_side) e in (leb-true _ _ p.0, leb-true _ _ p.1)

line-there : (there : Bool) (lines : ℕ) → has_line there lines ≡ true → there ≡ true → 1 ≤ lines
unfolding has_line
line-there there lines e t = leb-true 1 lines (subst (λ x. (not x || leb 1 lines) ≡ true) t e)

pub placed : (b : Block) (n : ℕ) → is_reference b.ref_width b.ref_height n ≡ true → is_lines b.above_lines b.left_lines ≡ true
    → is_placed b ≡ true → has_lines b ≡ true → InReference b n
unfolding is_placed has_lines
placed b n reference lines place there =
    let r = reference-all _ _ _ reference in
    let l = lines-all _ _ lines in
    let p = and_both (is_side b.width && is_side b.height && leb (b.left_lines + b.width) stride) (leb (b.above_lines + b.height) b.ref_height) place in
    let q = and_both (is_side b.width && is_side b.height) (leb (b.left_lines + b.width) stride) p.0 in
    let s = and_both (is_side b.width) (is_side b.height) q.0 in
    let t = and_both (has_line b.have_top b.above_lines) (has_line b.have_left b.left_lines) there in
    record {
      above = l.0;
      left = l.1;
      wide = side-all b.width s.0;
      high = side-all b.height s.1;
      across = leb-true _ _ q.1;
      down = leb-true _ _ p.1;
      lines = r.1;
      long = r.2;
      top = line-there _ _ t.0;
      side = line-there _ _ t.1;
    }
