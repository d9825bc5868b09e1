-- Laws of a direction's setting.
pub mod Most
pub mod Table
