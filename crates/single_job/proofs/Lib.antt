-- Laws of a job by itself.
pub mod Singles
