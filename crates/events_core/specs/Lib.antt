pub mod Rows
pub mod Script
pub mod Steps
pub mod Laws
pub mod Draws
