-- This paper's number for every case, and the case for every number (docs/NUMBERS.md), of what a row's words name. All of it is to be believed.
pub mod Dir
pub mod Mode
pub mod Flag
pub mod Word
