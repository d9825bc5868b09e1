-- The edge filter, from document 01. A reader must believe Filter; Padded is plumbing, what the code's steps ask of a list.
pub mod Filter
pub mod Padded
