pub mod run_measures
pub mod packet_sim
