-- Laws of the zones as a direction is set.
pub mod Samples
pub mod OneEdge
pub mod TwoEdges
