pub mod Reads
pub mod Rows
pub mod Cells
pub mod Heads
pub mod Disciplines
pub mod PortRows
pub mod LinkRows
