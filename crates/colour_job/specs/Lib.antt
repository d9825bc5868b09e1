-- A colour job over a luma plane and a chroma plane: its tests of what it reads, and what it leaves, all to be believed. What it reads stands in
-- `colour_windows`, specs/Windows.
pub mod Answer
pub mod Done
-- For the code: what it can count on between its steps.
pub mod Passed
