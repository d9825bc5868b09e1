-- Laws of colour prediction.
pub mod Along
pub mod Taken
pub mod Accepted
