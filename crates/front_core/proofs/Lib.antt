pub mod CatchLaws
