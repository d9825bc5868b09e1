-- What the code goes by: its rectangles, and the hull of a job. What a clash is stands in `reorder` and `touches`.
pub mod Hull
pub mod Rects
