-- What rows along a list of entries hold: plumbing, which the laws of `zone_spec` lead back to the zones' definitions.
pub mod Listed
