pub mod EntryLists
pub mod LeastFirst
pub mod Buckets
pub mod StairPaces
pub mod Slides
pub mod FirstPackets
pub mod Repeated
