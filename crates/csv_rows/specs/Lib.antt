pub mod Decimal
pub mod Stream
pub mod Source
pub mod Line
pub mod Pieces
pub mod Front
pub mod Text
pub mod Numbered
