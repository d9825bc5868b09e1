-- One job of a tower's plan: its row, what is tested of it, and what it is read into, all to be believed. What it reads and writes stands in
-- `tower_touches`.
pub mod Row
pub mod Tests
pub mod Rules
pub mod Job
