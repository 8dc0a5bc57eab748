pub mod Files
pub mod RowsAlone
pub mod Ruled
pub mod Runs
