-- Laws of interpolation.
pub mod Laws
pub mod Taps
pub mod Flat
pub mod Four
pub mod Inside
