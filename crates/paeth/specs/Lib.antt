-- To believe: Paeth, from document 01.
pub mod Paeth
