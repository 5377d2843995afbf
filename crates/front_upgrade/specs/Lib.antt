pub mod Upgraded
pub mod Rows
