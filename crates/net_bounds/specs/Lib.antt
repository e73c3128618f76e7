pub mod NetRuns
pub mod TableValues
pub mod Promises
pub mod OneServer
pub mod Guarantee
