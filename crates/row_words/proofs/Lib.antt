-- Laws of the numbers that a row's words hold.
pub mod Dirs
pub mod Named
pub mod Angle
pub mod Modes
pub mod Refused
pub mod Place
