pub mod Taken
pub mod Writer
pub mod Written
pub mod Escapes
pub mod Markup
pub mod Own
