-- What a direction is set to (document 01, Directions): a reader must believe all of it.
pub mod Setting
pub mod Steps
