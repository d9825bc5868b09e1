-- A block as the code makes it: it serves the code, and nothing in it is to be believed.
pub mod Made
