-- `piece` meets its contract: a bound for each step, by which it fits. Assumes nothing.
use Rattle.std.proofs.Common.{ℤ, ◌+ℤ◌, ◌-ℤ◌, ◌*ℤ◌, ⊎_elim, zero-lt-suc, arith, w32, SFits, rules}
use lib.Signed.{shr_z}
use Rattle.signed.proofs.Parts.{abs, one, shr}
use Rattle.signed.proofs.Bound.{Bound, b-add, b-sub, b-mul, b-shr, b-fits, back}
use Rattle.reciprocal.proofs.piece.Goals as goal

record Fit (w x b : ℤ) : Type 0 where
  m : SFits w32 (x *ℤ x)
  p : SFits w32 (shr_z (x *ℤ x) 16384)
  n : SFits w32 (w *ℤ shr_z (x *ℤ x) 16384)
  q : SFits w32 (shr_z (w *ℤ shr_z (x *ℤ x) 16384) 256)
  h : SFits w32 (shr_z x 2)
  d : SFits w32 (shr_z (w *ℤ shr_z (x *ℤ x) 16384) 256 -ℤ shr_z x 2)
  r : SFits w32 ((shr_z (w *ℤ shr_z (x *ℤ x) 16384) 256 -ℤ shr_z x 2) +ℤ b)

-- the square is shifted by 14 before it is a factor
small : (x : ℤ) → Bound 23175 x → Bound 32782 (shr_z (x *ℤ x) 16384)
small x h =
    let b = b-mul h h in
    let r = shr_z (x *ℤ x) 16384 in
    let q = shr (x *ℤ x) 16384 (zero-lt-suc 16383) in
    let e = abs (x *ℤ x) in
    let g = abs r in
    record { most = ⊎_elim (λ z. omega (arith, b.most)) (λ z. omega (arith, b.most)) (one r) }

fit : (c : goal.Start) → Fit c.args.w c.args.x c.args.b
fit c =
    let w : Bound 214 c.args.w = record { most = c.requires.0 } in
    let x : Bound 23175 c.args.x = record { most = c.requires.1 } in
    let b : Bound 13782 c.args.b = record { most = c.requires.2 } in
    let p = small c.args.x x in
    let q = b-shr 256 (b-mul w p) in
    let d = b-sub q (b-shr 2 x) in
    record {
      m = b-fits w32 (b-mul x x) tt;
      p = b-fits w32 p tt;
      n = b-fits w32 (b-mul w p) tt;
      q = b-fits w32 q tt;
      h = b-fits w32 (b-shr 2 x) tt;
      d = b-fits w32 d tt;
      r = b-fits w32 (b-add d b) tt;
    }

pub overflow_mul-result : goal.overflow_mul-result
overflow_mul-result c = let f = fit c in search rules

pub overflow_mul-result-2 : goal.overflow_mul-result-2
overflow_mul-result-2 c = let f = fit c in search rules

pub overflow_sub-result : goal.overflow_sub-result
overflow_sub-result c =
    let f = fit c in
    simp (back w32 c.ranges.w, back w32 c.ranges.x, back w32 f.m, back w32 f.p, back w32 f.n, back w32 f.q, back w32 f.h) f.d

pub overflow_add-result : goal.overflow_add-result
overflow_add-result c =
    let f = fit c in
    simp (
      back w32 c.ranges.w,
      back w32 c.ranges.x,
      back w32 c.ranges.b,
      back w32 f.m,
      back w32 f.p,
      back w32 f.n,
      back w32 f.q,
      back w32 f.h,
      back w32 f.d,
    ) f.r

pub returns : goal.returns
returns c =
    let f = fit c in
    simp (
      back w32 c.ranges.w,
      back w32 c.ranges.x,
      back w32 c.ranges.b,
      back w32 f.m,
      back w32 f.p,
      back w32 f.n,
      back w32 f.q,
      back w32 f.h,
      back w32 f.d,
      back w32 f.r,
    )
