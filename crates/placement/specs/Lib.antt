pub mod Reading
pub mod Scan
pub mod Lanes
pub mod Refusal
