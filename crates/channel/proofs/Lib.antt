pub mod Shared
pub mod SampledCalls
pub mod QueuedCalls
pub mod Configured
pub mod Arrivals
pub mod Departures
