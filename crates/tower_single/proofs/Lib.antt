-- Laws of a tower's job by itself.
pub mod Rooms
pub mod Singles
