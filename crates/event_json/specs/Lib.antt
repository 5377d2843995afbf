pub mod Room
pub mod Objects
pub mod Json
pub mod JsonReports
pub mod Recording
pub mod ReadBack
pub mod Laws
pub mod Rows
