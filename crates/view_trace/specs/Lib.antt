pub mod Escapes
pub mod Event
pub mod ObjectText
pub mod Parts
pub mod Stamps
pub mod Trace
pub mod Traced
