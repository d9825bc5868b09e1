-- The test of an order by a table of rectangles. Table is to be believed: what a row of it writes and reads, and which rows clash. Columns is what
-- the code goes by.
pub mod Table
pub mod Columns
