-- The windows and the block of a colour job. Colour is to be believed; Placed and Counted are what the code goes by.
pub mod Colour
pub mod Placed
pub mod Counted
