pub mod Firsts
pub mod FirstBroken
pub mod Keeping
pub mod Searching
pub mod Meanings
