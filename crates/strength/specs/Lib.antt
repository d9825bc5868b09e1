-- The strength by which an edge is filtered, and the filtered corner (document 01, Directions): a reader must believe all of it.
pub mod Strength
pub mod Corner
