-- Interpolation between the entries of an edge (document 01, Directions). A reader must believe F4, and Interp but for its record `Taps`, which the code
-- asks for; Quads is plumbing, the taps as the code's tables hold them.
pub mod F4
pub mod Interp
pub mod Quads
