pub mod Prelude
pub mod IntervalEnds
pub mod ValueIntervals
pub mod NarrowIntervals
pub mod Spans
pub mod SafeSteps
pub mod OtherStates
pub mod Runs
pub mod Faults
pub mod Table
pub mod Evaluation
pub mod LeastFaults
pub mod SameStates
pub mod Refusals
mod Bounds
