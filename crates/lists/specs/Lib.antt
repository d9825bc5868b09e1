-- What a lent list holds afterwards: to be believed.
pub mod Fill
pub mod Block
