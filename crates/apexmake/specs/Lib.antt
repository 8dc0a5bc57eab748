pub mod Endings
pub mod Received
