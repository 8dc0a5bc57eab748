pub mod Calls
pub mod Leaving
pub mod Owners
