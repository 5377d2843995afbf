pub mod Prelude
pub mod RangeLaws
pub mod FirstClass
pub mod WithinBounds
pub mod Prepare
pub mod AskLaws
pub mod ClassicLaws
pub mod FieldsThere
