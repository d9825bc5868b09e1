-- The claim over the numbers on paper.
pub mod Paper
