-- What a job reads and writes (document 01, From samples to edges): Touches is to be believed. Rects is the same samples by rectangles, by which refusal
-- 23 is told; proofs/Exact shows that they are these samples.
pub mod Touches
pub mod Rects
