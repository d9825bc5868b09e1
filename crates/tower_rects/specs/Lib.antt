-- The rectangles of a tower's row in the tall picture. Rows is what the code goes by; what a job reads and writes stands in `tower_touches`.
pub mod Rows
