-- The rectangles of a tower's job are exact.
pub mod Within
pub mod Exact
