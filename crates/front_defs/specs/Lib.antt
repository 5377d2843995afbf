pub mod Numbers
pub mod Rates
pub mod Options
