pub mod Descent
pub mod Marks
pub mod Row
pub mod Preorder
pub mod Growth
pub mod Codes
pub mod Laws
