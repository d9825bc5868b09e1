-- Refusals in order, and what a call promises: to be believed.
pub mod Ladder
pub mod Promise
