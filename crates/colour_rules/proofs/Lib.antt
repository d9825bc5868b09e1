-- Laws of the tests of a colour prediction.
pub mod Before
pub mod Granted
pub mod Shown
pub mod Bounds
pub mod Reach
pub mod Whole
