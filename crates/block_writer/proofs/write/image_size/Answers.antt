-- `image_size` meets its contract. Assumes nothing.
use Prim.Native.Nat.{◌+◌, ◌-◌}
use native.Mathlib.Nat.{div-le_self}
use native.Mathlib.Omega.{arith}
use Rattle.block_image.proofs.Fits.{rows-most}
use Rattle.block_writer.proofs.write.image_size.Goals as goal

pub overflow_add-result : goal.overflow_add-result
overflow_add-result c = let s = c.before in omega (arith, s.requires.1, rows-most s.args.f s.requires.0)

pub overflow_mul-result : goal.overflow_mul-result
overflow_mul-result c = let s = c.before.before in omega (arith, s.requires.1, rows-most s.args.f s.requires.0, div-le_self (s.args.n + s.args.f.rows - 1) s.args.f.rows)
