-- What `derive_params` tests, and what it gives, all to be believed.
pub mod Rules
pub mod Derived
