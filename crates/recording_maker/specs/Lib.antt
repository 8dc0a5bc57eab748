pub mod Formats
pub mod Made
pub mod Outcome
pub mod Refused
