-- Laws of a colour job: what its answer and its block depend on, that 13 cannot arise, and what the code counts on between its steps.
pub mod Local
pub mod NoThirteen
pub mod Same
pub mod Held
pub mod Block
pub mod Answers
