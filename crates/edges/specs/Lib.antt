-- From samples to edges. To be believed: Rules (what is tested, in which order), Refs (what a call promises).
pub mod Rules
pub mod Refs
