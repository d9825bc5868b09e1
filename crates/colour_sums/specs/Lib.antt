-- The places that count, and the nine sums over them. Places (as far as the walk over all rows) and Sum are to be believed; the rest of Places, and AsLines,
-- say how the code gets there.
pub mod Places
pub mod Sum
pub mod AsLines
