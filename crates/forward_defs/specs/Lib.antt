pub mod Sendings
pub mod Forwarded
pub mod SingleLinkType
pub mod Keeping
pub mod Laws
