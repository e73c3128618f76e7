pub mod Lawful
pub mod OpenServers
pub mod OneSimulation
