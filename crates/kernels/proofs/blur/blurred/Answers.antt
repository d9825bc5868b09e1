-- `blurred` meets its contract: every step of the sum fits. Assumes nothing.
use borrow.Author.Rules.{rules}
use native.Mathlib.Omega.{arith}
use Prim.Native.Nat.{ℕ, ◌+◌, ◌*◌, ◌≤◌, ◌<◌}
use lib.ListN.{get_or}
use lib.IntN.{ℤ, pos, ◌+ℤ◌, ◌*ℤ◌}
use lib.Signed.{shr_z}
use mir.Syntax.{w32}
use mir.Val.{SFits}
use Rattle.signed.proofs.Bound.{Bound, b-abs, b-pos, b-add, b-mul, b-shr, b-fits}
use Rattle.signed.proofs.Entry.{entry_small}
use Rattle.kernels.specs.Kernel.{tap, taps5}
use Rattle.kernels.proofs.blur.blurred.Goals as goal
use Rattle.kernels.proofs.blur.blurred.Goals.{Start}

record Fit (k0 k1 k2 k3 k4 a b c d e : ℤ) : Type 0 where
  m0 : SFits w32 (k0 *ℤ a)
  m1 : SFits w32 (k1 *ℤ b)
  m2 : SFits w32 (k2 *ℤ c)
  m3 : SFits w32 (k3 *ℤ d)
  m4 : SFits w32 (k4 *ℤ e)
  s1 : SFits w32 (k0 *ℤ a +ℤ k1 *ℤ b)
  s2 : SFits w32 (k0 *ℤ a +ℤ k1 *ℤ b +ℤ k2 *ℤ c)
  s3 : SFits w32 (k0 *ℤ a +ℤ k1 *ℤ b +ℤ k2 *ℤ c +ℤ k3 *ℤ d)
  s4 : SFits w32 (k0 *ℤ a +ℤ k1 *ℤ b +ℤ k2 *ℤ c +ℤ k3 *ℤ d +ℤ k4 *ℤ e)
  s5 : (h : ℕ) → h ≤ 8 → SFits w32 (k0 *ℤ a +ℤ k1 *ℤ b +ℤ k2 *ℤ c +ℤ k3 *ℤ d +ℤ k4 *ℤ e +ℤ pos h)
  q : (h : ℕ) → h ≤ 8 → SFits w32 (shr_z (k0 *ℤ a +ℤ k1 *ℤ b +ℤ k2 *ℤ c +ℤ k3 *ℤ d +ℤ k4 *ℤ e +ℤ pos h) 16)

module _ (c : Start) where
  abbrev k : ℕ → ℤ
  k t = tap c.args.k.now t

  abbrev e : ℕ → ℤ
  e j = get_or c.args.pad.now j (pos 0)

  -- a tap times an entry
  part : (t j : ℕ) → t < 5 → j < c.args.i + 5 → Bound (8 * 4095) (k t *ℤ e j)
  part t j h l = b-mul (b-abs {z = k t} (c.requires.five.small t h)) (b-abs {z = e j} (entry_small _ _ c.requires.i_in_bounds.1 j l))

  fit : Fit (k 0) (k 1) (k 2) (k 3) (k 4) (e c.args.i) (e (c.args.i + 1)) (e (c.args.i + 2)) (e (c.args.i + 3)) (e (c.args.i + 4))
  fit =
      let m0 = part 0 c.args.i (omega arith) (omega arith) in
      let m1 = part 1 (c.args.i + 1) (omega arith) (omega arith) in
      let m2 = part 2 (c.args.i + 2) (omega arith) (omega arith) in
      let m3 = part 3 (c.args.i + 3) (omega arith) (omega arith) in
      let m4 = part 4 (c.args.i + 4) (omega arith) (omega arith) in
      let s4 = b-add (b-add (b-add (b-add m0 m1) m2) m3) m4 in
      record {
        m0 = b-fits w32 m0 tt;
        m1 = b-fits w32 m1 tt;
        m2 = b-fits w32 m2 tt;
        m3 = b-fits w32 m3 tt;
        m4 = b-fits w32 m4 tt;
        s1 = b-fits w32 (b-add m0 m1) tt;
        s2 = b-fits w32 (b-add (b-add m0 m1) m2) tt;
        s3 = b-fits w32 (b-add (b-add (b-add m0 m1) m2) m3) tt;
        s4 = b-fits w32 s4 tt;
        s5 = λ h l. b-fits w32 (b-add s4 (b-pos {m = 8} h l)) tt;
        q = λ h l. b-fits w32 (b-shr 16 (b-add s4 (b-pos {m = 8} h l))) tt;
      }

pub overflow_mul-sum : goal.overflow_mul-sum
overflow_mul-sum c = let f = fit (goal.at.overflow_mul-sum c).Start in search rules

pub overflow_mul-sum-2 : goal.overflow_mul-sum-2
overflow_mul-sum-2 c = let f = fit (goal.at.overflow_mul-sum-2 c).Start in search rules

pub overflow_add-sum-2 : goal.overflow_add-sum-2
overflow_add-sum-2 c = let f = fit (goal.at.overflow_add-sum-2 c).Start in search rules

pub overflow_mul-sum-3 : goal.overflow_mul-sum-3
overflow_mul-sum-3 c = let f = fit (goal.at.overflow_mul-sum-3 c).Start in search rules

pub overflow_add-sum-4 : goal.overflow_add-sum-4
overflow_add-sum-4 c = let f = fit (goal.at.overflow_add-sum-4 c).Start in search rules

pub overflow_mul-sum-4 : goal.overflow_mul-sum-4
overflow_mul-sum-4 c = let f = fit (goal.at.overflow_mul-sum-4 c).Start in search rules

pub overflow_add-sum-6 : goal.overflow_add-sum-6
overflow_add-sum-6 c = let f = fit (goal.at.overflow_add-sum-6 c).Start in search rules

pub overflow_mul-sum-5 : goal.overflow_mul-sum-5
overflow_mul-sum-5 c = let f = fit (goal.at.overflow_mul-sum-5 c).Start in search rules

pub overflow_add-sum-8 : goal.overflow_add-sum-8
overflow_add-sum-8 c = let f = fit (goal.at.overflow_add-sum-8 c).Start in search rules

pub overflow_add-result : goal.overflow_add-result
overflow_add-result c = let f = fit (goal.at.overflow_add-result c).Start in search (rules, f.s5)

pub returns : goal.returns
unfolding taps5
returns c =
    let f = fit (goal.at.returns c).Start in
    let rounded = f.s5 8 (omega arith) in
    let shifted = f.q 8 (omega arith) in
    search rules
