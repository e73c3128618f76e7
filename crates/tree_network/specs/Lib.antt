pub mod Networks
pub mod Spots
pub mod Lists
pub mod Orders
pub mod Rings
pub mod Turns
pub mod Plans
