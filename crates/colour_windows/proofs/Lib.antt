-- Laws of the windows' rectangles, of what was tested, and of what was read.
pub mod Rects
pub mod Tested
pub mod Read
