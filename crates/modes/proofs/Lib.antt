-- What each mode's predictor asks, and that it predicts numbers in 0..M.
pub mod Modes
pub mod Inside
