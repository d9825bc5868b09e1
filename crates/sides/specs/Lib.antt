-- The samples of the neighbours. To be believed: Read (what is tested), Values (what the edges hold), and of Spot how a sample is found in the plane's list
-- (`spot_of`, `spot_value`, `spot_in_range`). The rest of Spot, and Side, are what the code goes by.
pub mod Spot
pub mod Side
pub mod Read
pub mod Values
