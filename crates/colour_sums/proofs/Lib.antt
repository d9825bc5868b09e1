-- Laws of the places, of a window's rows and columns as lines, and of the sums.
pub mod Walks
pub mod Counted
pub mod Runs
pub mod Swap
pub mod Blocks
pub mod Taken
pub mod Whole
pub mod Count
pub mod Sizes
pub mod Same
