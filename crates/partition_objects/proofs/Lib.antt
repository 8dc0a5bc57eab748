mod Copies
pub mod Tables
pub mod Numbers
mod TimeOuts
