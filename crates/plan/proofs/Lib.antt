-- The theorem on orders, and what a run's answer says.
pub mod Reorder
pub mod Laws
pub mod Steps
