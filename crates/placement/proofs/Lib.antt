pub mod Readings
pub mod LeftOver
pub mod Ends
pub mod Places
pub mod Puts
pub mod Ahead
pub mod Refusal
