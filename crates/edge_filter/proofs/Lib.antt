-- Laws of the edge filter.
pub mod Padded
pub mod Filtered
pub mod Ready
pub mod Parts
pub mod Pieces
