pub mod Turns
pub mod Waiting
pub mod Moves
pub mod InTurn
pub mod DrrStates
pub mod index_links
