-- One job of a run. To be believed: Written (the samples of its block), Done (the plane afterwards) and Jobs. Granted is what the code goes by.
pub mod Written
pub mod Done
pub mod Granted
pub mod Jobs
