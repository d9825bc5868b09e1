-- What the exported functions promise, with the answer's number in the answer's place: to be believed.
pub mod Blocks
pub mod Jobs
