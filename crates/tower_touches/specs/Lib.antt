-- What a tower's job reads and writes (document 02, request (v)): Touches is to be believed. Rects is the same samples by rectangles, by which refusal
-- 23 is told; proofs/Exact shows that they are these samples.
pub mod Touches
pub mod Rects
