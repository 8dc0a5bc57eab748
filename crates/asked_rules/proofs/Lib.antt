pub mod Counts
pub mod Relations
pub mod Fronts
pub mod Above
pub mod Files
pub mod Built
