-- Plumbing: what the rows promise. What a reader must believe stands in `paeth`.
pub mod Chosen
