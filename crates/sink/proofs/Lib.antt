pub mod SoFar
pub mod Walks
pub mod Escapes
pub mod Parts
pub mod Tags
