-- To be believed: the reciprocal over whole numbers.
pub mod Division
