pub mod Relays
pub mod Chains
pub mod Asked
