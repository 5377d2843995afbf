pub mod Codes
pub mod Entries
pub mod Parsing
pub mod Printing
pub mod Reads
pub mod States
