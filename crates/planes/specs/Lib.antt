-- A picture of three planes. Three is to be believed. Rects is its rectangles, by which refusal 23 is told; proofs/Tall shows that the test is exact.
pub mod Three
pub mod Rects
