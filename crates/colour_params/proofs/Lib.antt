-- Laws of a window's shifted sums, of the samples and of the refusals.
pub mod Window
pub mod Samples
pub mod Answers
