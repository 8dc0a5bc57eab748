pub mod Log
pub mod Reference
