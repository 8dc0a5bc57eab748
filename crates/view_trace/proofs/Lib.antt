pub mod Parts
pub mod Plain
pub mod Traces
