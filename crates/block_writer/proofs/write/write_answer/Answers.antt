-- `write_answer` meets its contract: a plan of whole rows has few enough for its size. Assumes nothing.
use mathlib.Core.Path.{sym}
use Rattle.block_writer.proofs.Written.{whole-rows}
use Rattle.block_writer.proofs.write.write_answer.Goals as goal

pub image_size-requires : goal.image_size-requires
image_size-requires c = (c.requires, (whole-rows c.args.f c.args.plan.now (sym c.if-not-is_rows.ensures)).few)
