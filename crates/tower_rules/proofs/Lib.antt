-- What the tests of a tower's run have shown.
pub mod Tests
