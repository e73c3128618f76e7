pub mod ForkNetwork
pub mod ForkRun
pub mod WrittenRun
pub mod WrittenTables
