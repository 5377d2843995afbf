pub mod Scope
pub mod FlowKeys
pub mod Flows
pub mod Node
pub mod NodeSteps
pub mod Forms
pub mod Table
pub mod Runs
