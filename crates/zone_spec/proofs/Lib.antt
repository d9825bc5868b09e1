-- Laws of the zones.
pub mod Inside
pub mod Along
pub mod Blocks
pub mod Once
pub mod Range
