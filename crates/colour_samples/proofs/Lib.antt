-- Laws of the terms, of the digits that were seen, and of a sample that is taken.
pub mod Digits
pub mod Ranges
pub mod Low
pub mod Grown
pub mod Steps
pub mod OneSample
