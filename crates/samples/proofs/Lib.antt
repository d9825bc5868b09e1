-- Laws of reading a sample.
pub mod Within
pub mod Fields
pub mod Digits
pub mod Half
pub mod Reading
