pub mod Opened
mod Outcomes
