-- Laws of the words' places.
pub mod Places
