-- Laws of three planes.
pub mod Three
pub mod Tall
