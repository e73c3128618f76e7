pub mod Flows
pub mod Stairs
pub mod Repeats
pub mod watch_laws
pub mod curve_values
pub mod step_lines
