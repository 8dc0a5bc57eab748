pub mod Left
pub mod Rows
pub mod UnderWay
pub mod Proposal
