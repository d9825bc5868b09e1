-- One job of a tower's run. To be believed: Done (its answer, and the three planes afterwards) and Jobs. Granted is what the code goes by, but for
-- `three`, which the promises of the calls use: three lists as the planes 0, 1 and 2.
pub mod Done
pub mod Jobs
pub mod Granted
