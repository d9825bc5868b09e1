-- A tower's job by itself: what it tests and what it leaves, to be believed.
pub mod Single
