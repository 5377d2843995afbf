pub mod Prelude
pub mod Records
pub mod Readings
pub mod CapturesLeft
pub mod BytesLaws
pub mod Windows
pub mod Takes
pub mod Holds
