pub mod Laid
pub mod Codes
pub mod Embedded
pub mod Fabrics
pub mod Rows
