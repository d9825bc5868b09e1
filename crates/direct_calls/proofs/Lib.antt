-- Laws of the tests of a direct call.
pub mod Accepted
pub mod Given
pub mod Passed
