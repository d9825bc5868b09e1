-- The loop of `z3_by`: its invariant, that the first i strips are written, o is 4 i w and from is 256 (i + 1); and what strip i holds. Assumes nothing.
use Prim.Native.Nat.{ℕ, ◌≤◌, ◌<◌, ◌+◌, ◌*◌, ◌/◌}
use native.Mathlib.Nat.{mul-le-mul_right}
use native.Mathlib.Omega.{arith}
use mathlib.Core.Path.{◌≡◌, ◌∙◌, ap}
use mathlib.Core.List.{List}
use lib.ListN.{length, get_or}
use lib.IntN.{ℤ, pos}
use lib.Ieee.{Float, nan}
use mir.Syntax.{w32}
use mir.Val.{to_z, of_z}
use Rattle.lists.specs.Fill.{filled}
use Rattle.lists.specs.Block.{rows, sample}
use Rattle.lists.proofs.Block.{rows_at}
use Rattle.taps.specs.Interp.{between}
use Rattle.zone_rows.proofs.z3.z3_by.Invariants.{at}
use Rattle.zone_rows.proofs.z3.z3_by.Goals.{In-loop-i}

module _ (c : In-loop-i) where
  -- the strip lies in the output
  pub room : c.loop-i.o + 4 * c.args.w ≤ length c.loop-i.out
  room = omega (arith, mul-le-mul_right c.args.w c.loop-i-test.true)

  -- its entries are there
  pub reach : (c.loop-i.from + c.args.w * c.args.dy) / 64 + 7 ≤ c.args.w * c.args.dy / 64 + 4 * c.args.n + 7
  reach = omega arith

  -- column h's sample in row j of the strip
  place : (j h : ℕ) → c.loop-i.from + (h + 1) * c.args.dy + 64 * j ≡ 64 * (4 * c.loop-i.i + j + 1) + (h + 1) * c.args.dy + 192
  place j h = omega arith

  -- what the strip holds is what stands in its rows
  abbrev pub M : ℤ
  M = to_z w32 (of_z w32 c.args.m)

  abbrev pub column : ℕ → ℕ → Float
  column h j = sample (between c.args.lum M (λ t. get_or c.args.list.now t (pos 0)) (c.loop-i.from + (h + 1) * c.args.dy + 64 * j))

  pub stands : (before after : List Float) → after ≡ filled (c.args.w * 4) (rows 4 column) before → (j h : ℕ) → j < 4 → h < c.args.w
      → get_or after (h * 4 + j) nan ≡ at c.args.lum M c.args.dy c.args.list.now (4 * c.loop-i.i + j) h
  stands before after e j h p q =
      ap (λ l. get_or l (h * 4 + j) nan) e
      ∙ rows_at 4 c.args.w column before h j nan q p
      ∙ ap (λ x. sample (between c.args.lum M (λ t. get_or c.args.list.now t (pos 0)) x)) (place j h)
