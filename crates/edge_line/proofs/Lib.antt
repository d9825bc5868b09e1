-- Laws of runs and of the edge along a line.
pub mod Split
pub mod Every
pub mod Along
pub mod Runs
pub mod Onward
pub mod Halves
