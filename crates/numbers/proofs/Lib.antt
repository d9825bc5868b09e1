-- Laws of the numbers and their names.
pub mod Look
pub mod Agree
pub mod Named
pub mod Colours
pub mod Most
