pub mod Paths
pub mod Shape
pub mod TreeContents
pub mod Shrinking
pub mod Places
