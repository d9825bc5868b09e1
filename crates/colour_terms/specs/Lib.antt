-- The places of a reference list, the terms of one sample, and the tests of a reference, all to be believed.
pub mod Reference
pub mod Terms
