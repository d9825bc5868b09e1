-- An order whose entries are each seen once, and the plan's own.
pub mod Seen
pub mod InPlace
