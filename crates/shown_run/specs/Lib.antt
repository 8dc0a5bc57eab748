pub mod Kept
pub mod Walks
pub mod Judged
pub mod Stretches
pub mod Endings
pub mod Files
pub mod Shown
