-- Laws of edges that a call builds.
pub mod Accepted
pub mod Inside
pub mod Given
