pub mod Escaped
pub mod Parts
pub mod Related
