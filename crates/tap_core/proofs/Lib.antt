pub mod Prelude
pub mod LineLaws
pub mod Entries
pub mod SlotLaws
pub mod Passes
pub mod WatchLaws
