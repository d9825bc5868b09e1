-- A job's rectangles hold the samples that it touches, and no other.
pub mod Places
pub mod Runs
pub mod Exact
