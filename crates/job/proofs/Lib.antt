-- What a row that stands can count on, and how it is read.
pub mod Stands
pub mod Read
