-- Laws of the product.
pub mod Thru
pub mod Shift
pub mod Rounding
pub mod Away
pub mod Bounds
pub mod Short
