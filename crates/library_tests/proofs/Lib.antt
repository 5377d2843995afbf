pub mod Prelude
pub mod EventTurns
pub mod Exchanges
pub mod Roots
pub mod Rounds
