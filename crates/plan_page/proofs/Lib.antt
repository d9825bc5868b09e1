-- Laws of texts that are put one after the other, of a number's digits, and of a page: its lines, what reading left, its refusals, and a plan's own file.
pub mod Texts
pub mod Digits
pub mod Lines
pub mod PageOf
pub mod Reading
pub mod Never45
pub mod Written
