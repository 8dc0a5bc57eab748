pub mod Longest
pub mod InTurn
