-- Lines of places, place by place and the fast way. Fold is to be believed; Held says where places stand, and Fast, Long and TookLines what the code's
-- functions over lines do.
pub mod Fold
pub mod Held
pub mod Fast
pub mod Long
pub mod TookLines
