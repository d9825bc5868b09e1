-- A job's windows. Windows is to be believed: what stands in them, and the test of what is read. Held is what the code goes by: the rectangles that
-- it reads, and what its lists hold then.
pub mod Windows
pub mod Held
