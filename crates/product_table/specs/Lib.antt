-- For the code alone: what a first factor's table holds, and the product from it, which is shown equal to the product of `fixed_product`.
pub mod Wide
