-- Laws of a part that was lent, and of a rectangle that is written.
pub mod Middle
pub mod Painted
pub mod RowByRow
pub mod Cast
