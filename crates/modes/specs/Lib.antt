-- The predictor of a job's mode: Predictor is to be believed, Ready is what the code is given.
pub mod Predictor
pub mod Ready
