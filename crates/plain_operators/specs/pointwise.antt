pub mod Lattice
pub mod LatticeCall
pub mod Shifting
pub mod Straight
pub mod Leaning
