pub mod Links
pub mod Numbers
pub mod Delays
pub mod Arrived
pub mod Stand
