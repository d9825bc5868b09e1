-- Laws of two jobs that meet, or do not.
pub mod Around
pub mod Placed
pub mod Runs
pub mod Meets
