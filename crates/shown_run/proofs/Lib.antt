mod Copies
pub mod Kept
pub mod Taking
pub mod Judging
pub mod InPlace
pub mod FewerRecords
pub mod UpTo
mod Answering
