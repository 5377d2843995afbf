pub mod Digits
pub mod Faults
pub mod Gathered
