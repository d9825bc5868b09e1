-- To be believed: the places of luma that a predicted sample needs, and the rules of a call.
pub mod Needed
pub mod Rules
-- For the code: what the rules grant, and the area that it tests.
pub mod Placed
pub mod Area
