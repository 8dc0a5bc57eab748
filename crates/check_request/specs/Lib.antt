pub mod CommandLine
pub mod Requests
pub mod Settings
pub mod Words
pub mod Wrong
