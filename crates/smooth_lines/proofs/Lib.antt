-- Laws of the running numerator.
pub mod Running
