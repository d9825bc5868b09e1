-- What a tower's run tests before its first job, to be believed.
pub mod Rules
