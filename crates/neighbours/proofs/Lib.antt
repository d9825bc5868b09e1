-- What a fill asks and gives.
pub mod Made
