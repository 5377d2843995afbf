pub mod Preorder
pub mod Plan
pub mod Laws
