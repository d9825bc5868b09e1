-- To be believed: the block of samples, and what the call promises.
pub mod Predicted
-- For the code: what it can count on, and where it finds a row's luma.
pub mod Accepted
pub mod Lines
