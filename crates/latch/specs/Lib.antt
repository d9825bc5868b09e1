-- What the exported functions promise, with the answer's number in the answer's place: all three files are to be believed.
pub mod Exported
pub mod Jobs
pub mod Blocks
