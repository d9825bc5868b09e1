-- What the rules of a tower's row come to, what a row that stands can count on, and how it is read.
pub mod Answers
pub mod Stands
pub mod Read
