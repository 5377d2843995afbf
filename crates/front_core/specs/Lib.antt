pub mod FaultLine
pub mod Catching
