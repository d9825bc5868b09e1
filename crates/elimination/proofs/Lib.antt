-- Laws of elimination.
pub mod Read
