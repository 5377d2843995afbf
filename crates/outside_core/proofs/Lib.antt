mod StoredLemmas
pub mod WrittenLaws
pub mod KeptLaws
pub mod FaultLaws
pub mod Joined
mod Refused
