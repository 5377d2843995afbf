pub mod Prelude
pub mod ArrayReads
pub mod ArrayUpdates
mod ChildSteps
pub mod FabricLaws
mod FlowLaws
mod LevelSteps
mod LevelWalks
mod NodeCounts
mod PopLaws
mod PopSteps
mod PushLaws
mod PushSteps
mod ReserveSteps
mod RoomSteps
mod SpillSteps
