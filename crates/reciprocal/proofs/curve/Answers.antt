-- `curve` meets its contract. Assumes nothing.
use Rattle.std.proofs.Common.{◌≡◌, ℕ, ◌/◌, ◌<◌, ◌≤◌, get_or, pos, ◌-ℤ◌, nat_abs, ◌∙◌, arith, w32, SFits, to_z}
use borrow.Author.Rules.{sfits_of}
use Rattle.signed.proofs.Bound.{abs-sub, sfits-abs, back, back-pos}
use Rattle.reciprocal.specs.Division.{pow2w, pow2o, pow2b, curve}
use Rattle.reciprocal.proofs.Range.{w-most, o-most, b-most}
use Rattle.reciprocal.proofs.curve.Goals as goal

-- what the tables have at n's place
record At (n : ℕ) : Type 0 where
  read : to_z w32 n ≡ pos n
  w : nat_abs (get_or pow2w (n / 2048) (pos 0)) ≤ 214
  b : nat_abs (get_or pow2b (n / 2048) (pos 0)) ≤ 13782
  x : nat_abs (pos n -ℤ get_or pow2o (n / 2048) (pos 0)) ≤ 23175
  fw : SFits w32 (get_or pow2w (n / 2048) (pos 0))
  fo : SFits w32 (get_or pow2o (n / 2048) (pos 0))
  fb : SFits w32 (get_or pow2b (n / 2048) (pos 0))
  fx : SFits w32 (pos n -ℤ get_or pow2o (n / 2048) (pos 0))

find : (n : ℕ) → n < 16384 → At n
find n h =
    let i = n / 2048 in
    let l : n / 2048 < 8 = omega arith in
    let o = get_or pow2o i (pos 0) in
    let x : nat_abs (pos n -ℤ o) ≤ 23175 = omega (arith, abs-sub (pos n) o, o-most i l) in
    record {
      read = back-pos w32 n (omega arith);
      w = w-most i l;
      b = b-most i l;
      x = x;
      fw = sfits-abs w32 _ (omega (arith, w-most i l));
      fo = sfits-abs w32 _ (omega (arith, o-most i l));
      fb = sfits-abs w32 _ (omega (arith, b-most i l));
      fx = sfits-abs w32 _ (omega (arith, x));
    }

pub overflow_sub-x : goal.overflow_sub-x
overflow_sub-x c = let f = find c.args.n c.requires in simp (f.read, back w32 f.fo) f.fx

pub piece-requires : goal.piece-requires
piece-requires c =
    let f = find c.args.n c.requires in
    simp (f.read, back w32 f.fo, back w32 f.fw, back w32 f.fb, back w32 f.fx) (f.w, f.x, f.b)

pub returns : goal.returns
unfolding curve
returns c =
    let f = find c.args.n c.requires in
    back w32 {z = c.piece.result} (sfits_of c.piece.type_inv) ∙
    (simp (f.read, back w32 f.fo, back w32 f.fw, back w32 f.fb, back w32 f.fx) at c.piece.ensures)
