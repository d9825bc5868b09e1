-- A tower's plan done in an order: what a run leaves, all to be believed but `TowerRows` and `TowerInOrder`, which the code goes by.
pub mod Run
