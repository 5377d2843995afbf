pub mod Prelude
pub mod ScriptLaws
pub mod ScriptAnswers
pub mod UsualLaws
