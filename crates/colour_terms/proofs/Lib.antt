-- Laws of the terms, and of the tests of a reference.
pub mod Granted
pub mod Most
