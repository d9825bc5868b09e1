-- Where a block stands. To be believed: Behind (what stands behind each entry), Rules (what is tested). Placed is what the rules leave to count on.
pub mod Behind
pub mod Rules
pub mod Placed
