-- Laws of a predicted sample and of rows of them.
pub mod Laws
pub mod Held
pub mod Runs
