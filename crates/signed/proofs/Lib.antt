-- Laws of signed numbers.
pub mod Parts
pub mod Order
pub mod Bound
pub mod Range
pub mod Entry
pub mod Diff
pub mod Mean
pub mod Naturals
