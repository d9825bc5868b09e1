-- To believe: Weights, from document 01. Plumbing: Reach, by which the rows leave out the products that change nothing.
pub mod Weights
pub mod Reach
