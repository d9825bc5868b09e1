-- Laws of the edge filter's kernels.
pub mod Taps
