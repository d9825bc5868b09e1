-- A block as it is made, and that it is the image's.
pub mod Bytes
pub mod Made
pub mod Image
pub mod Written
