-- Laws of the rectangles of a tower's row. Inside: they fit 16 bits. Clash: two rows clash by them as their jobs do. ByMode: what they are made of.
pub mod Inside
pub mod ByMode
pub mod Clash
