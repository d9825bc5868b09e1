-- What a sample reads as: to be believed.
pub mod Sample
