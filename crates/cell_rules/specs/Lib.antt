pub mod Rules
pub mod Sites
pub mod Finding
pub mod Marks
pub mod cell_changes
pub mod cell_values
pub mod edit_sites
