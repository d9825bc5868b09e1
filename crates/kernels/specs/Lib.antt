-- The kernels of the edge filter, from document 01: a reader must believe them.
pub mod Kernel
