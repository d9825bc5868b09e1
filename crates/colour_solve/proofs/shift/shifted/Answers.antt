-- `shifted` meets its contract: what is shifted up fits 64 digits. Assumes nothing.
use mathlib.Core.Path.{◌≡◌, ◌∙◌, ap}
use Prim.Native.Nat.{◌*◌, ◌/◌, ◌%◌, ◌^◌, ◌≤◌}
use native.Mathlib.Omega.{arith}
use lib.Pow.{shl_exact}
use mir.Syntax.{w32}
use Rattle.signed.proofs.Bound.{back-pos}
use Rattle.colour_solve.specs.Shift.{shifted}
use Rattle.colour_solve.proofs.Reach.{shift-once, shifted-most}
use Rattle.colour_solve.proofs.shift.shifted.Goals as goal

module _ (c : goal.Start) where
  ends : (c.args.s * 2 ^ 22) % 2 ^ 64 / 2 ^ c.args.e ≡ shifted c.args.e c.args.s
  ends = ap (λ n. n / 2 ^ c.args.e) (shl_exact {a = c.args.s} 42 22 64 (omega (arith, c.requires.0)) (omega arith)) ∙ shift-once c.args.e c.args.s

  low : shifted c.args.e c.args.s ≤ 2 ^ 22
  low = shifted-most c.args.e c.args.s c.requires.1

pub overflow_cast-result-2 : goal.overflow_cast-result-2
overflow_cast-result-2 c = simp (ends c) (record { sfits = omega (arith, low c) })

pub returns : goal.returns
returns c = simp (ends c, back-pos w32 (shifted c.args.e c.args.s) (omega (arith, low c)))
