-- The text that is printed of a plan's file (document 02, request (iv)). Page and Promises are to be believed; Put is what inner functions promise.
pub mod Page
pub mod Promises
pub mod Put
