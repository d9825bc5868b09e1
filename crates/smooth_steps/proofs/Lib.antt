-- Laws of the steps, in natural numbers.
pub mod Parts
pub mod Steps
