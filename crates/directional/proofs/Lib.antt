-- Laws of directions.
pub mod Cases
pub mod Named
pub mod Inside
