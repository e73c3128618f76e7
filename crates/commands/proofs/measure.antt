pub mod OneMeasure
pub mod Answering
pub mod Counting
pub mod Causes
