-- Laws of refusals in order, and of promises.
pub mod Ladder
pub mod Promise
pub mod Yields
