-- Laws of the test of an order by a table of rectangles. Table is for callers.
pub mod Table
pub mod Meet
pub mod Tells
pub mod Enter
pub mod Rows
pub mod Struck
pub mod Walk
