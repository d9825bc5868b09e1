-- This paper's number for every case, and the case for every number (docs/NUMBERS.md). All of it is to be believed; Look is how a case is found.
pub mod Look
pub mod Limits
pub mod Size
pub mod Depth
pub mod Colour
pub mod Answer
