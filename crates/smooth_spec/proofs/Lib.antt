-- The smooth predictors in natural numbers.
pub mod Laws
