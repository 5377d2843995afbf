pub mod StoppedLaws
pub mod AskedLaws
