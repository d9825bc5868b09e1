-- Laws of reordering. THE THEOREM is `reorder`, in Reorder.antt.
pub mod Test
pub mod Entry
pub mod Counts
pub mod Places
pub mod Once
pub mod Blocks
pub mod Commute
pub mod Reorder
pub mod Kept
pub mod Run
pub mod Own
pub mod Check
pub mod Walk
pub mod Swap
pub mod Rect
pub mod Cross
