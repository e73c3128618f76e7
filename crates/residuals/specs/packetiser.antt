pub mod Packets
pub mod Growth
