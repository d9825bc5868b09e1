-- What direct predictor calls test, and what they promise: Direct is to be believed. Given is what every block function asks.
pub mod Direct
pub mod Given
