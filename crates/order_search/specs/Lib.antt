pub mod Agreement
pub mod Choices
