pub mod Counted
pub mod OneRun
pub mod Reports
pub mod Before
pub mod AtLeastZero
pub mod Bounded
