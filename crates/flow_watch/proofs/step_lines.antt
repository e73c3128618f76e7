pub mod LowTrees
pub mod PlacedPairs
pub mod SortedParts
