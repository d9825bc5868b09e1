-- What a direction needs at a place, a sample's terms, and one sample more of the nine sums. Sample and Nine are to be believed; Depth, Way and Took say how
-- the code takes a sample.
pub mod Sample
pub mod Nine
pub mod Depth
pub mod Way
pub mod Took
