-- Laws of the shift.
pub mod Reach
