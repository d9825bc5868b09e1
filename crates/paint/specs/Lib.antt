-- A rectangle of a plane that is written: Painted is to be believed. Block, a predicted block with its differences row by row, is what the code goes by.
pub mod Painted
pub mod Block
