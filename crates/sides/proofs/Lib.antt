-- Laws of the neighbours' places and of the samples behind the entries.
pub mod Lines
pub mod Words
pub mod Sides
pub mod Tested
