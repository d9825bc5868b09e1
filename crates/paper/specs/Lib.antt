-- Numbers on paper: both lists are to be believed, each case against document 01.
pub mod Paper
