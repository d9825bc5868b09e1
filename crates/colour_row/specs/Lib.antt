-- To be believed: a predicted sample.
pub mod Sample
-- For the code: what it works out once for a block, and the luma of a row.
pub mod Mixed
pub mod Wides
pub mod Runs
