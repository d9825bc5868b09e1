-- Laws of a tower's run. THE THEOREM of its orders is `tower-any-order`, in Reorder.antt.
pub mod Reorder
pub mod Laws
pub mod Steps
