pub mod Plain
pub mod Numbers
