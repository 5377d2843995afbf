pub mod Policy
pub mod Accepted
pub mod Classic
pub mod BuiltIn
pub mod Numbers
