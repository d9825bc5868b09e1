-- The numbers of a tower's row beside those of the first library (docs/NUMBERS.md): all of it is to be believed.
pub mod Word
pub mod Limits
