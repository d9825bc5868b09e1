-- Laws of one job of a tower's run: its answer, what it asks and leaves, and what the theory of orders asks of it.
pub mod Answer
pub mod Onto
pub mod Modes
pub mod Read
pub mod Block
pub mod Local
pub mod Frame
pub mod Laws
pub mod Clash
