-- Plumbing: what the steps and the rows promise. What a reader must believe stands in `smooth_spec` and `smooth_weights`.
pub mod Parts
