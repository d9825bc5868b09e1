-- What the nine sums of a window give: refusal 14, and the parameters, all to be believed.
pub mod Small
pub mod Shift
