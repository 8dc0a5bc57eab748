pub mod Meets
pub mod Memories
pub mod Remembered
pub mod FirstBroken
pub mod Search
pub mod Passed
pub mod Rules
pub mod Sentences
