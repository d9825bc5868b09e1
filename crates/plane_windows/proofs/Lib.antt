-- Laws of a rectangle of a plane, and of one that is read row after row.
pub mod Lies
pub mod Into
