pub mod Trees
pub mod Filled
pub mod Sizes
