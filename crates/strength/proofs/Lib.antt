-- A strength is at most 3, and the corner is a sample.
pub mod Most
pub mod Samples
