pub mod Prelude
pub mod NumberLists
pub mod OneLine
pub mod WholeRuns
pub mod ReadLines
pub mod ReadOutcomes
