-- Laws of steps one after the other, of the sums of the fast way, and of lines that are taken.
pub mod Folds
pub mod LineLaws
pub mod LongLaws
pub mod Lined
pub mod EachLine
