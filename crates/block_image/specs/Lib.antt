-- A plan as a file of blocks (document 02, request (iv)), all to be believed.
pub mod Bytes
pub mod Image
pub mod Rules
pub mod Taken
pub mod Fits
pub mod Refusals
pub mod Promises
