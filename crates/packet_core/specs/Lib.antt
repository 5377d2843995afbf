pub mod Tests
pub mod Numbers
pub mod Ranges
pub mod Rules
pub mod Classes
pub mod Classifier
pub mod Laws
