pub mod Arrival
pub mod Stores
pub mod Block
pub mod BlockTree
