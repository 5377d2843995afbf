pub mod Bounds
pub mod Codes
pub mod LeastLines
pub mod Refusals
pub mod Samples
