-- Laws of the windows and the block of a colour job.
pub mod Planes
pub mod Window
pub mod Counted
