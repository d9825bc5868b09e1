-- One job of a plan: its row, and what is tested, all to be believed. What it reads and writes stands in `touches`.
pub mod Row
pub mod Mode
pub mod Rules
pub mod Job
