pub mod Reached
pub mod Parts
pub mod OneFlow
pub mod TwoServers
pub mod TwoFlows
pub mod TwoPriorities
pub mod TwoQuanta
pub mod OneGate
