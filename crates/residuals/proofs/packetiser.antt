pub mod PacketLaw
pub mod PacketGrowth
