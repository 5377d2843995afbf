pub mod Prelude
pub mod EntryLaws
pub mod LoopLaws
pub mod PrintLaws
pub mod PrintMeasure
pub mod Refusals
pub mod StateLaws
pub mod TextSteps
