pub mod Decimals
pub mod Glyphs
pub mod Laws
pub mod Lines
pub mod Marks
pub mod Refusals
pub mod Says
pub mod Tokens
