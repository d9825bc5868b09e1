-- Laws of the test of an order.
pub mod Entries
pub mod Lists
pub mod Bounds
pub mod Touched
pub mod Walk
