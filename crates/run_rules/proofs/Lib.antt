-- What the tests have shown, and orders that are accepted or refused.
pub mod Tests
pub mod Cases
pub mod Verdict
