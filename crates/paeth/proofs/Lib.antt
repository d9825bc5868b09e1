-- Laws of Paeth.
pub mod Laws
