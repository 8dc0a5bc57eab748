pub mod Counts
pub mod Lawful
pub mod RowFaults
pub mod Pairs
