pub mod OnSeeds
pub mod Laws
