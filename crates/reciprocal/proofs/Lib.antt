-- Laws of the reciprocal.
pub mod Range
