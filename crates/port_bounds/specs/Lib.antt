pub mod Ports
pub mod Incoming
pub mod Ranges
pub mod Services
pub mod Promises
pub mod StairsIncoming
pub mod StairRows
pub mod StairPromises
