-- To be believed: the steps of elimination on a row, and three unknowns from nine sums. RowIn, PairIn, ParamsIn and SumsIn are bounds, for the code.
pub mod Rows
pub mod Elimination
