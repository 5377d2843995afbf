pub mod Array
pub mod Children
pub mod Flow
pub mod Flat
pub mod Paths
