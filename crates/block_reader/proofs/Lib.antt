-- Laws of the words in a file.
pub mod Words
