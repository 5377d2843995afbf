pub mod Prelude
pub mod TextLaws
pub mod UpgradeLaws
pub mod OneLaws
pub mod LineLaws
