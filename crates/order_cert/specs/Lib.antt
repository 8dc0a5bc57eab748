pub mod Row
pub mod Order
pub mod Kept
