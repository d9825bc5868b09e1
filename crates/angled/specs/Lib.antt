-- The zones as a direction is set, from document 01: a reader must believe them.
pub mod AtAngle
