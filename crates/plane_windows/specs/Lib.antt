-- Rectangles of a plane, and what stands in a list of rows of 256 entries once one was read: what the code goes by.
pub mod Lies
pub mod Widened
pub mod Into
