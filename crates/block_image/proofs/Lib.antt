-- Laws of a plan's file. Words and sums of bytes:
pub mod Digits
pub mod Sum
pub mod Zeros
-- what the numbers of a format, and the tests of a block, give:
pub mod Fits
pub mod Used
pub mod Block
pub mod Alike
pub mod RowsOf
pub mod Walk
pub mod InOrder
pub mod Steps
pub mod WholeFile
-- accepted bytes are the image of the plan that is read:
pub mod Held
pub mod BlockBack
pub mod Back
-- a plan's image is accepted, and reads back:
pub mod Counted
pub mod There
pub mod Forth
pub mod ReadsBack
pub mod Exact
-- and what the check catches.
pub mod OneWord
pub mod Caught
