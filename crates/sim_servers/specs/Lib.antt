pub mod Openings
pub mod Queues
pub mod Firsts
pub mod Stations
pub mod sim_states
pub mod stated_existence
pub mod sim_loop
