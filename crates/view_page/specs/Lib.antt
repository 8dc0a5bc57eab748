pub mod Sent
pub mod Strips
