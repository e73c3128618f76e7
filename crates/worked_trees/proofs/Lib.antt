pub mod Busy
pub mod Linked
pub mod Numbers
pub mod PacedFork
pub mod PacedForkRun
pub mod OwnPeriod
