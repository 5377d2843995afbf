pub mod Numbers
pub mod FrontTests
pub mod Headers
pub mod ReadingLaws
