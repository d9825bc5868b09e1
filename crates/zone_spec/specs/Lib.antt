-- The zones of the directions (document 01, Directions). A reader must believe Zones, and Split, which says where a row of zone 2 changes its edge; Either is
-- plumbing, zone 2 over the code's lists.
pub mod Zones
pub mod Split
pub mod Either
