-- The test of an order of a tower's plan. Rules is to be believed: its clash is by rectangles, and tower_touches/proofs/Exact shows that they are the
-- samples that jobs touch. Tables is what the code goes by.
pub mod Rules
pub mod Tables
