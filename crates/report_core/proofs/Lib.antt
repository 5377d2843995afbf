pub mod DigitLaws
pub mod LineSteps
pub mod LineTexts
pub mod TextLaws
pub mod WholeTexts
pub mod Ranks
