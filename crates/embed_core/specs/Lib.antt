pub mod Range
pub mod Blocks
pub mod ImageOrder
pub mod Shrinking
pub mod Picks
pub mod LiftedPaths
