-- The test of an order. Rules is to be believed: its clash is by rectangles, and plan/proofs/Reorder, `kept-exact`, shows that it is the clash of what jobs touch.
-- Sides and Window are what the code goes by.
pub mod Rules
pub mod Sides
pub mod Window
