-- Signed numbers in a range: to be believed.
pub mod Range
