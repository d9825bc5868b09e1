-- Laws of where a block stands.
pub mod Placed
pub mod Behind
