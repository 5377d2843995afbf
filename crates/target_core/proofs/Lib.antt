pub mod Prelude
pub mod OneTarget
pub mod ArityRanges
pub mod TextAnswers
mod Faults
mod ItemArities
mod TableValues
