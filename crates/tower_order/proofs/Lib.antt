-- Laws of the test of an order of a tower's plan. Entries is for callers; Written, Filled and Tables are of the table.
pub mod Entries
pub mod Written
pub mod Filled
pub mod Tables
