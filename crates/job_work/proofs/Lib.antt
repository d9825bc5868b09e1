-- Laws of one job: what it can count on, what it writes, and what the theory of orders asks of it.
pub mod Granted
pub mod Adds
pub mod Tested
pub mod Local
pub mod Laws
pub mod Clash
