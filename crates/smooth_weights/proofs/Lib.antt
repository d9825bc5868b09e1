-- The table's rule over all 192 entries, and the facts of the five sizes.
pub mod Sizes
pub mod Table
