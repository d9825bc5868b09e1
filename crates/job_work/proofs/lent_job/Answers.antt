-- `lent_job` meets its contract: what is written is what the definition names. Assumes nothing.
use Prim.Native.Nat.{ℕ, ◌+◌, ◌-◌, ◌*◌, ◌≤◌, ◌<◌}
use native.Mathlib.Omega.{arith}
use mathlib.Core.Path.{◌≡◌, ◌∙◌}
use mathlib.Core.List.{List}
use lib.IntN.{ℤ, pos}
use lib.ListN.{length, get_or, take, drop}
use mir.Facts.{to_z-of_z}
use Rattle.lists.proofs.Fill.{rest-length, rest_at}
use Rattle.job_work.proofs.Adds.{write-asks, write-gives}
use Rattle.job_work.proofs.lent_job.Goals as goal

-- the differences from the job's start on
module _ (ds : List ℤ) (start B : ℕ) (within : start + B * B ≤ length ds) where
  abbrev part : List ℤ
  part = take (length ds - start) (drop start ds)

  long : B * B ≤ length part
  long = omega (arith, within, rest-length start ds)

  same : (i : ℕ) → i < B * B → get_or part i (pos 0) ≡ get_or ds (start + i) (pos 0)
  same i h = rest_at start ds i (pos 0) (omega (arith, within))

pub write_block-requires : goal.write_block-requires
write_block-requires c =
    let g = c.requires.granted.0 in
    let ds = c.args.differences.now in
    let within = g.tested.enough in
    let asks = write-asks g _ c.args.out.now _ ds (part ds c.args.job.start c.args.job.spec.b within) (to_z-of_z c.ranges.m ∙ c.requires.granted.1) c.block_into.ensures c.requires.above_len.2
    (long ds c.args.job.start c.args.job.spec.b within) in
    record { room = asks.0; wholes = asks.1 }

pub returns : goal.returns
returns c =
    let g = c.requires.granted.0 in
    let ds = c.args.differences.now in
    let within = g.tested.enough in
    write-gives g _ c.args.out.now _ ds (part ds c.args.job.start c.args.job.spec.b within) (to_z-of_z c.ranges.m ∙ c.requires.granted.1) c.block_into.ensures c.requires.above_len.2
    (long ds c.args.job.start c.args.job.spec.b within) _
    c.write_block.ensures (same ds c.args.job.start c.args.job.spec.b within)
