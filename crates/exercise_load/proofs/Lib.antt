pub mod Joined
pub mod DrawnAre
pub mod Sent
pub mod Stand
pub mod Narrow
pub mod Refused
