-- What a block function hands to its rows.
pub mod Ready
