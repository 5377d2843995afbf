pub mod Faults
pub mod Carries
pub mod Kinds
pub mod Bodies
pub mod Options
pub mod Blocks
pub mod Readers
pub mod Left
