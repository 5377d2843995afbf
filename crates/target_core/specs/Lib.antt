pub mod TargetText
pub mod Laws
pub mod Codes
pub mod Faults
pub mod Rows
