-- To be believed: the product over whole numbers, and the one of prediction, which is short where it can be.
pub mod Product
pub mod Short
