pub mod Steps
pub mod Lines
pub mod Held
pub mod Lists
pub mod Names
pub mod Rows
pub mod Watching
pub mod ListRows
