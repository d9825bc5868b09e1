-- Laws of filled lists, blocks and tables.
pub mod Fill
pub mod Block
pub mod RowLoop
pub mod Table
pub mod Loop
