-- The promises of the calls on a plan's blocks, with the answer's number in the answer's place, by the numbers of request (iv).
use Rattle.std.specs.Prelude.{List, ℕ}
use Rattle.block_image.specs.Image.{plan_format}
use Rattle.block_image.specs.Promises.{Outputs, ReadPlanC, WritePlanC}

-- `write_plan`
abbrev pub WrittenC : List ℕ → Outputs → Outputs → ℕ → Type 0
WrittenC = WritePlanC plan_format

-- `read_plan`
abbrev pub ReadC : List ℕ → Outputs → Outputs → ℕ → Type 0
ReadC = ReadPlanC plan_format
