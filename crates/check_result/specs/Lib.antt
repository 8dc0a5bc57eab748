pub mod Endings
pub mod FileNames
pub mod RowsText
