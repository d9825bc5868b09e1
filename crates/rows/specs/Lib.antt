-- What a filled row holds: plumbing, which callers take to `tab`.
pub mod Filled
