-- Laws of the product from a table.
pub mod Kept
pub mod Served
pub mod Entries
